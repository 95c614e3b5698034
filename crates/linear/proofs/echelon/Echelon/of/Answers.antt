use Rattle.std.proofs.Common.{◌∙◌}
use Rattle.std.proofs.lemmas.List.{take_all}
use Rattle.std.proofs.lemmas.Result.{err_from_is_err_and}
use Rattle.linear.proofs.Intake.{stands_none, stands_more, never_more}
use Rattle.linear.proofs.echelon.Echelon.of.Goals as goal

pub loop-equation-init : goal.loop-equation-init
loop-equation-init g c =
    let F = g.F.Field.arithmetic c.args.system.field.now in
    (c.empty-echelon.ensures.over, rw c.empty-echelon.ensures.rows (stands_none F _ _ 32 c.args.system.shape.most_unknowns))

pub returns-in_err-insert-clause-never : goal.returns-in_err-insert-clause-never
returns-in_err-insert-clause-never g c =
    let F = g.F.Field.arithmetic c.args.system.field.now in
    let (over, stands) = c.loop-equation.invariant in
    let clash = rw over at c.in_err-insert.ensures.inserts in
    let gave = err_from_is_err_and c.from_residual.result c.from_residual.ensures.1 in
    rw gave.1 (never_more F _ _ c.args.equations.now c.loop-equation.equation-index c.loop-equation-test.true c.equation-item.result c.equation-item.is _ stands clash)

pub loop-equation-preserved : goal.loop-equation-preserved
loop-equation-preserved g c =
    let F = g.F.Field.arithmetic c.args.system.field.now in
    let (over, stands) = c.loop-equation.invariant in
    let joined = rw over at c.in_ok-insert.ensures.inserts in (
      c.in_ok-insert.ensures.over ∙ over,
      stands_more F _ _ c.args.equations.now c.loop-equation.equation-index c.loop-equation-test.true c.equation-item.result c.equation-item.is _ stands _ joined,
    )

pub returns-clause-stands : goal.returns-clause-stands
returns-clause-stands g c = rw (take_all _ _ c.loop-equation-test.false) at c.loop-equation.invariant.1
