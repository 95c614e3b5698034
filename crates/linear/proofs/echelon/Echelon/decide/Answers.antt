use Rattle.std.proofs.Common.{◌∙◌, arith}
use Rattle.std.proofs.lemmas.List.{length-take}
use Rattle.linear.proofs.Steps.{reduced_passed, reduced_cleared}
use Rattle.linear.proofs.Answering.{tells}
use Rattle.linear.proofs.echelon.Echelon.decide.Goals as goal
use Rattle.linear.proofs.echelon.Echelon.decide.Goals.{in-Some, in_default}

pub loop-column-preserved : goal.loop-column-preserved
loop-column-preserved g c =
    let (reduced, past) = c.loop-column.invariant in
    let asked = c.homogeneous-row.result in
    let row = c.loop-column.row in
    let p = c.loop-column.column in
    elim c.match-slot.branch [
      | in-Some v ↦
          rw v.row-is (
            reduced_cleared _ _ _ _ _ asked c.args.self.now.echelon row p c.unknowns.result c.unknowns.ensures c.loop-column-test.true c.slot-item.result c.slot-item.is v.in-Some.pivot v.clear.new.row v.in-Some.is v.clear.ensures reduced,
            λ j l. v.clear.ensures.right.above j l ∙ past j l,
          )
      | in_default v ↦ rw v.row-is (reduced_passed _ _ _ _ _ asked row c.unknowns.result p c.loop-column-test.true c.slot-item.result c.slot-item.is v.in_default.is reduced, past)
    ]

pub returns : goal.returns
returns g c =
    λ equations stands.
    let (reduced, past) = c.loop-column.invariant in
    tells _ _ _ _ _ c.args.form.now c.homogeneous-row.result c.loop-column.row c.homogeneous-row.ensures.left c.homogeneous-row.ensures.right c.loop-column.column (omega (arith, length-take c.unknowns.result c.args.self.now.rows)) reduced c.args.self.now.echelon equations stands past c.reading.result c.reading.ensures
