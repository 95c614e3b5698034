use Rattle.std.proofs.Common.{◌≡◌, take}
use Rattle.linear.specs.Rows.{Stands}
use Rattle.linear.proofs.echelon.Echelon.of.Given as goal

-- the rows stand for the equations so far
abbrev pub invariant-loop-equation : goal.invariant-loop-equation
invariant-loop-equation g l =
    (l.echelon.system ≡ l.system)
    × Stands (g.F.Field.arithmetic l.system.field.now) l.system.shape.unknowns l.system.shape.right_sides (take l.equation-index l.equations) l.echelon.rows
