use Rattle.std.proofs.Common.{leb, get_or, sym, arith, le-leb}
use borrow.Author.Tests.{lt-leb}
use Rattle.sharing.proofs.Searching.{any_here, any_next, any_end}
use Rattle.sharing.proofs.elements.any_outside.Goals as goal

pub returns-then-number-size : goal.returns-then-number-size
returns-then-number-size g c =
    let F = g.F.Field.arithmetic c.args.field.now in
    let xs = c.args.numbers.now in
    let i = c.loop-number.number-index in
    sym (any_here (λ a. leb F.size a) xs i c.loop-number.invariant 0 c.loop-number-test.true
    (le-leb F.size (get_or xs i 0) (omega (arith, c.size.ensures, c.if-number-size.true))))

pub loop-number-preserved : goal.loop-number-preserved
loop-number-preserved g c =
    let F = g.F.Field.arithmetic c.args.field.now in
    let xs = c.args.numbers.now in
    let i = c.loop-number.number-index in
    any_next (λ a. leb F.size a) xs i c.loop-number.invariant 0 c.loop-number-test.true
    (lt-leb F.size (get_or xs i 0) (omega (arith, c.size.ensures, c.if-number-size.false)))

pub returns : goal.returns
returns g c =
    let F = g.F.Field.arithmetic c.args.field.now in
    sym (any_end (λ a. leb F.size a) c.args.numbers.now c.loop-number.number-index c.loop-number.invariant c.loop-number-test.false)
