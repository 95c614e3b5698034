use Rattle.std.proofs.Common.{◌≡◌, ℕ, ◌+◌, ◌*◌, ◌-◌, ◌<◌, ◌≢◌, List, length, drop, get_or, ap, ◌∙◌, arith, get_or-set_other, get_or-set_same, below_more}
use Rattle.std.proofs.lemmas.List.{get_or-take, get_or-drop}
use Rattle.std.specs.List.{slice_range}
use Rattle.fields.specs.Arithmetic.{Arithmetic}
use Rattle.sharing.specs.Cards.{derivative}
use Rattle.sharing.proofs.Rows.{is_row}
use Rattle.sharing.proofs.Steps.{derivative_same}
use Rattle.sharing.proofs.derivative.Derivative.write_values.Goals as goal

-- the derivative of a word that was cut out of the coefficients
cut_out : (F G : Arithmetic) (t d u : ℕ) (xs : List ℕ) (start v : ℕ) → G ≡ F
    → v ≡ derivative G t d u (λ i. get_or (slice_range xs start (start + t)) i 0)
    → v ≡ derivative F t d u (λ i. get_or xs (start + i) 0)
cut_out F G t d u xs start v same e =
    let n : start + t - start ≡ t = omega arith in
    e ∙ ap (λ A. derivative A t d u (λ i. get_or (slice_range xs start (start + t)) i 0)) same
    ∙ derivative_same F t d u (λ i. get_or (slice_range xs start (start + t)) i 0) (λ i. get_or xs (start + i) 0) (λ i l. rw n (get_or-take t (drop start xs) i 0 l) ∙ get_or-drop start xs i 0)

pub loop-j-preserved : goal.loop-j-preserved
loop-j-preserved g c =
    let F = g.F.Field.arithmetic c.args.field.now in
    let j = c.loop-j.j in
    let within : j < length c.loop-j.values = omega arith in
    below_more _ j
    (λ k h. let other : k ≢ j = omega arith in rw get_or-set_other (c.loop-j.invariant k h))
    (rw get_or-set_same (cut_out F _ c.args.self.now.top c.args.self.now.order c.args.self.now.id c.args.coefficients.now (j * c.args.self.now.top) _ (ap g.F.Field.arithmetic c.of-factors.ensures) c.of_word.ensures))

pub returns : goal.returns
returns g c =
    is_row c.loop-j.values (length c.args.values.now) _ c.loop-j.auto.values (λ k l. c.loop-j.invariant k (omega arith))
