use Rattle.std.proofs.Common.{◌≡◌, ℕ, ◌+◌, ◌-◌, get_or, ap, ◌∙◌, arith}
use Rattle.fields.specs.Sums.{sum}
use Rattle.sharing.specs.Cards.{power}
use Rattle.sharing.proofs.Steps.{term, power_more, term_more, term_at}
use Rattle.sharing.proofs.derivative.Derivative.of_word.Goals as goal

pub loop-i-preserved : goal.loop-i-preserved
loop-i-preserved g c =
    let F = g.F.Field.arithmetic c.args.factors.now.field.now in
    let d = c.args.self.now.order in
    let u = c.args.self.now.id in
    let i = c.loop-i.i in
    let a : ℕ → ℕ = λ j. get_or c.args.coefficients.now j 0 in
    let more : i - d + 1 ≡ i + 1 - d = omega arith in
    let p = power_more F u (i - d) in
    let s = term_more F d u a (i - d) in
    let t = term_at F d u a i (omega arith) in
    record {
      power_is = (let q : c.multiply-power.result ≡ power F u (i - d + 1) = cc in q ∙ ap (power F u) more);
      sum_is = (let q : c.add-sum.result ≡ sum F (i - d + 1) (term F d u a) = cc in q ∙ ap (λ (n : ℕ). sum F n (term F d u a)) more);
    }
