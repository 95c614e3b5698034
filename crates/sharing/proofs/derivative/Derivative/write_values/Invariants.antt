use Rattle.std.proofs.Common.{◌≡◌, ℕ, ◌+◌, ◌*◌, ◌<◌, get_or}
use Rattle.sharing.specs.Cards.{derivative}
use Rattle.sharing.proofs.derivative.Derivative.write_values.Given as goal

abbrev pub invariant-loop-j : goal.invariant-loop-j
invariant-loop-j g l =
    (k : ℕ) → k < l.j → get_or l.values k 0
    ≡ derivative (g.F.Field.arithmetic l.field) l.self.top l.self.order l.self.id (λ i. get_or l.coefficients (k * l.self.top + i) 0)
