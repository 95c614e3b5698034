use Rattle.std.proofs.Common.{◌≡◌, ℕ, ◌≤◌}
use Rattle.linear.specs.Solutions.{entry}
use Rattle.linear.proofs.Steps.{ReducedTo}
use Rattle.linear.proofs.echelon.Echelon.decide.Given as goal

-- the row is the form's, cleared before the column; nothing came to the places past the right sides
abbrev pub invariant-loop-column : goal.invariant-loop-column
invariant-loop-column g l =
    ReducedTo (g.F.Field.arithmetic l.system.field.now) (g.met.F.Field.lawful l.system.field.now) l.system.shape.unknowns l.system.shape.right_sides l.self.rows l.initial.row l.column l.row
    × ((j : ℕ) → l.system.shape.right_sides ≤ j → entry l.row.right_sides j ≡ 0)
