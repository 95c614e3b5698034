use Rattle.std.proofs.Common.{◌≡◌}
use Rattle.sharing.specs.Cards.{falling}
use Rattle.sharing.proofs.factors.Factors.falling.Given as goal

abbrev pub invariant-loop-k : goal.invariant-loop-k
invariant-loop-k g l = l.product ≡ falling (g.F.Field.arithmetic l.self.field.now) l.i l.k
