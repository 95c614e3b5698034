use Rattle.std.proofs.Common.{◌≡◌, ℕ, ◌-◌, ◌<◌, ◌≤◌, length, get_or}
use Rattle.sharing.specs.Cards.{power}
use Rattle.sharing.specs.Multipliers.{coefficient}
use Rattle.sharing.proofs.derivative.Derivative.multipliers.Given as goal

abbrev pub invariant-loop-i : goal.invariant-loop-i
invariant-loop-i g l = record {
  long : length l.multipliers ≡ 32;
  power_is : l.power ≡ power (g.F.Field.arithmetic l.field) l.self.id (l.i - l.self.order);
  each : (k : ℕ) → k < l.i → get_or l.multipliers k 0 ≡ coefficient (g.F.Field.arithmetic l.field) l.self.order l.self.id k;
  rest : (k : ℕ) → l.i ≤ k → get_or l.multipliers k 0 ≡ 0;
}
