use Rattle.linear.proofs.Steps.{TrimmedTo}
use Rattle.linear.proofs.echelon.Echelon.insert.Given as goal

-- the row is zero before the column
abbrev pub invariant-loop-column : goal.invariant-loop-column
invariant-loop-column g l =
    TrimmedTo (g.F.Field.arithmetic l.system.field.now) (g.met.F.Field.lawful l.system.field.now) l.system.shape.unknowns l.system.shape.right_sides l.fn.self.rows l.equation l.column l.row
