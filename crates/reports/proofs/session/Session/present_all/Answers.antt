use Rattle.std.proofs.Common.{◌≡◌, ◌-◌, ◌≤◌, Ok, sym, ap, ◌∙◌, arith}
use Rattle.trays.specs.Answers.{answer}
use Rattle.trays.specs.Layout.{card_size}
use Rattle.reports.proofs.Cards.{card_next, end_next, card_first, so_far_more}
use Rattle.reports.proofs.Openings.{nothing, part_to_come, at_one}
use Rattle.reports.proofs.Said.{card_said}
use Rattle.reports.proofs.session.Session.present_all.Goals as goal

pub part-requires : goal.part-requires
part-requires g c =
    let (ps, e, so) = at_one c.args.reader.now c.loop-i.invariant.so_far in
    part_to_come c.loop-i.reader (λ w e. let none : c.args.cards - c.loop-i.i ≡ 0 = cc in omega (arith, c.loop-i-test.true, none)) so.left so.to_come.2

pub unreachable-requires : goal.unreachable-requires
unreachable-requires g c =
    let (ps, e, so) = at_one c.args.reader.now c.loop-i.invariant.so_far in
    let some : 1 ≤ c.args.cards - c.loop-i.i = omega (arith, c.loop-i-test.true) in
    let found = card_next c.in_ok-bytes.field-0 so.to_come.2 some (c.in_ok-bytes.ensures.reads so.others e so.left).0 in
    c.in_default.not-Card found.0 found.1 found.2

pub present-requires-clause-long : goal.present-requires-clause-long
present-requires-clause-long g c =
    let (ps, e, so) = at_one c.args.reader.now c.loop-i.invariant.so_far in
    let is = card_said c.loop-i.reader c.part.new.reader c.in-Card.is c.in_ok-bytes.ensures.reads so.others e so.left in
    (card_first so.to_come.2 is).0 ∙ ap card_size (sym c.loop-i.invariant.frame.2)

pub loop-i-preserved : goal.loop-i-preserved
loop-i-preserved g c =
    let pool = c.args.self.now.pool in
    let frame = c.loop-i.invariant.frame in
    let kept = c.present.ensures.frame in
    record {
      few = omega (arith, c.present.ensures.counted, c.loop-i.invariant.few);
      frame = (kept.0 ∙ frame.0, kept.1 ∙ frame.1, kept.2 ∙ frame.2);
      so_far = λ ps e r.
          so_far_more (g.F.Field.arithmetic pool.field) pool.policy pool.words c.in-Card.is c.in_ok-bytes.ensures.reads
          (rw (frame.0, frame.1, frame.2) at c.present.ensures.list) (rw (frame.0, frame.1, frame.2) at c.present.ensures.refusals) (c.loop-i.invariant.so_far ps e r);
    }

pub unreachable-requires-in_default-2 : goal.unreachable-requires-in_default-2
unreachable-requires-in_default-2 g c =
    let (ps, e, so) = at_one c.args.reader.now c.loop-i.invariant.so_far in
    let none : c.args.cards - c.loop-i.i ≡ 0 = omega (arith, c.loop-i-test.false) in
    let said = (c.in_ok-next.ensures.reads so.others e so.left).0 in
    c.in_default-2.not-None (nothing c.in_ok-next.field-0 (λ i is. end_next i so.to_come.2 none (sym (ap (λ o. answer (Ok o)) is) ∙ said)))
