use Rattle.std.proofs.Common.{rules}
use Rattle.linear.proofs.system.System.negate_all.Goals as goal

pub returns : goal.returns
returns g c = λ k l. let h = c.rewrite.ensures k l in search rules
