use Rattle.std.proofs.Common.{refl}
use Rattle.linear.proofs.Intake.{echelon_none}
use Rattle.linear.proofs.echelon.Echelon.empty.Goals as goal

pub invariant_of-result : goal.invariant_of-result
invariant_of-result g c =
    let F = g.F.Field.arithmetic c.args.system.field.now in
    record { columns = refl; echelon = echelon_none F _ 0 32 c.args.system.shape.most_unknowns }
