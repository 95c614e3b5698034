use Rattle.std.proofs.Common.{◌≡◌, ◌+◌, ◌-◌, ◌<◌, ◌≢◌, length, sym, refl, ap, ◌∙◌, arith, length-set, get_or-set_other, get_or-set_same, below_more}
use Rattle.sharing.specs.Cards.{power}
use Rattle.sharing.specs.Multipliers.{coefficient}
use Rattle.sharing.proofs.Places.{coefficient_low, coefficient_from, zeros_at}
use Rattle.sharing.proofs.Steps.{power_more}
use Rattle.sharing.proofs.derivative.Derivative.multipliers.Goals as goal

pub loop-i-init : goal.loop-i-init
loop-i-init g c =
    let F = g.F.Field.arithmetic c.args.field.now in
    let d = c.args.self.now.order in
    let none : d - d ≡ 0 = omega arith in
    record {
      long = refl;
      power_is = sym (ap (power F c.args.self.now.id) none);
      each = λ k l. zeros_at 32 k ∙ sym (coefficient_low F d c.args.self.now.id k l);
      rest = λ k l. zeros_at 32 k;
    }

pub loop-i-preserved : goal.loop-i-preserved
loop-i-preserved g c =
    let F = g.F.Field.arithmetic c.args.field.now in
    let u = c.args.self.now.id in
    let d = c.args.self.now.order in
    let i = c.loop-i.i in
    let inv = c.loop-i.invariant in
    let within : i < length c.loop-i.multipliers = omega arith in
    let more : i - d + 1 ≡ i + 1 - d = omega arith in
    let next = power_more F u (i - d) in
    let here = coefficient_from F d u i (omega arith) in
    record {
      long = length-set c.loop-i.multipliers i c.multiply.result ∙ inv.long;
      power_is = (let p : c.multiply-power.result ≡ power F u (i - d + 1) = cc in p ∙ ap (power F u) more);
      each = below_more _ i
          (λ k h. let other : k ≢ i = omega arith in rw get_or-set_other (inv.each k h))
          (rw get_or-set_same (let v : c.multiply.result ≡ coefficient F d u i = cc in v));
      rest = λ k h. let other : k ≢ i = omega arith in rw get_or-set_other (inv.rest k (omega arith));
    }
