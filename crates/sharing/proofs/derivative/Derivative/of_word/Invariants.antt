use Rattle.std.proofs.Common.{◌≡◌, ◌-◌, get_or}
use Rattle.fields.specs.Sums.{sum}
use Rattle.sharing.specs.Cards.{power}
use Rattle.sharing.proofs.Steps.{term}
use Rattle.sharing.proofs.derivative.Derivative.of_word.Given as goal

abbrev pub invariant-loop-i : goal.invariant-loop-i
invariant-loop-i g l = record {
  power_is : l.power ≡ power (g.F.Field.arithmetic l.factors.field.now) l.self.id (l.i - l.self.order);
  sum_is : l.sum ≡ sum (g.F.Field.arithmetic l.factors.field.now) (l.i - l.self.order) (term (g.F.Field.arithmetic l.factors.field.now) l.self.order l.self.id (λ i. get_or l.coefficients i 0));
}
