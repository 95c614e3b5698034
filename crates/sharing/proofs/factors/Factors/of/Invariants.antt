use Rattle.std.proofs.Common.{◌≡◌, ℕ, ◌<◌, length, get_or}
use Rattle.sharing.specs.Cards.{whole}
use Rattle.sharing.proofs.factors.Factors.of.Given as goal

abbrev pub invariant-loop-element : goal.invariant-loop-element
invariant-loop-element g l = record {
  long : length l.element-items ≡ 32;
  next_is : l.next ≡ whole (g.F.Field.arithmetic l.field) l.element-index;
  each : (k : ℕ) → k < l.element-index → get_or l.element-items k 0 ≡ whole (g.F.Field.arithmetic l.field) k;
}
