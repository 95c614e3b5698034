use Rattle.std.proofs.Common.{sym, ◌∙◌, arith}
use Rattle.std.proofs.lemmas.List.{length-take}
use Rattle.linear.proofs.Steps.{trimmed_passed, trimmed_cleared, echelon_stored, joined_stored, leaves}
use Rattle.linear.proofs.echelon.Echelon.insert.Goals as goal
use Rattle.linear.proofs.echelon.Echelon.insert.Goals.{in-Some, in_default+in_default-inverse}

pub loop-column-preserved : goal.loop-column-preserved
loop-column-preserved g c =
    let e = c.args.equation.now in
    let row = c.loop-column.row in
    let p = c.loop-column.column in
    elim c.match-slot.branch [
      | in-Some v ↦
          rw v.row-is (trimmed_cleared _ _ _ _ _ e c.args.self.now.echelon row p c.unknowns.result c.unknowns.ensures c.loop-column-test.true c.slot-item.result c.slot-item.is v.in-Some.pivot v.clear.new.row v.in-Some.is v.clear.ensures c.loop-column.invariant)
      | in_default+in_default-inverse v ↦ rw v.row-is (trimmed_passed _ _ _ _ _ e row p (sym v.inverse.ensures ∙ v.in_default-inverse.is) c.loop-column.invariant)
    ]

pub returns-clause-inserts : goal.returns-clause-inserts
returns-clause-inserts g c =
    leaves _ _ _ _ _ c.args.equation.now c.args.self.now.echelon c.loop-column.row c.loop-column.column (omega (arith, length-take c.unknowns.result c.args.self.now.rows)) c.loop-column.invariant c.leftover.result c.leftover.ensures

pub returns-in-Some-inverse-clause-inserts : goal.returns-in-Some-inverse-clause-inserts
returns-in-Some-inverse-clause-inserts g c =
    joined_stored _ _ _ _ _ c.args.equation.now c.args.self.now.echelon c.loop-column.row c.loop-column.column c.unknowns.result c.unknowns.ensures c.loop-column-test.true c.slot-item.result c.slot-item.is c.in_default.is _ (sym c.inverse.ensures ∙ c.in-Some-inverse.is) c.scale.new.row c.scale.ensures c.loop-column.invariant

pub invariant_of-self-clause-echelon : goal.invariant_of-self-clause-echelon
invariant_of-self-clause-echelon g c =
    echelon_stored _ (g.met.F.Field.lawful _) _ _ _ c.args.equation.now c.args.self.now.echelon c.loop-column.row c.loop-column.column c.unknowns.result c.unknowns.ensures c.loop-column-test.true c.slot-item.result c.slot-item.is c.in_default.is _ (sym c.inverse.ensures ∙ c.in-Some-inverse.is) c.scale.new.row c.scale.ensures c.loop-column.invariant
