-- A card as a linear equation in the coefficients.
--   sum_parts               a sum in two parts
--   dot_same                dot products of equal values are equal
--   last_here, last_else    what stands at the last place of an array that reads it, and at the others
--   reads_last              zeros and a one read the last place
--   el_derivative           the derivative on a card, in the field's own terms
--   derivative_dot          it is a dot product
--   last_dot                the form of the last place reads it
-- Assumes nothing.
use Rattle.std.proofs.Common.{◌≡◌, ℕ, zero, suc, ◌+◌, ◌-◌, ◌<◌, ◌≤◌, cond, ◌≢◌, get_or, set, replicate, sym, refl, ap, ◌∙◌, ap₂, add-zero, add-suc, arith, eq-eqb, ne_eqb}
use Rattle.std.proofs.lemmas.Grind.{elements}
use Rattle.std.proofs.lemmas.Bool.Decides.{nat_tests}
use Rattle.fields.specs.Arithmetic.{Arithmetic, Laws}
use Rattle.linear.specs.Solutions.{dot}
use Rattle.linear.proofs.Fields.{Field}
use Rattle.linear.proofs.Fields as field
use Rattle.linear.proofs.Values.{zero_add, zero_mul, one_mul}
use Rattle.linear.proofs.Sums.{sum_ext, sum_zero, dot_single}
use Rattle.linear.proofs.Codes.{Code, el, el_same, el_mul, el_zero, el_one, field_of}
use Rattle.linear.proofs.Reading.{el_sum, el_dot, sum_below}
use Rattle.sharing.specs.Cards.{power, derivative}
use Rattle.sharing.specs.Multipliers.{coefficient}
use Rattle.sharing.proofs.Places.{coefficient_low, coefficient_high, zeros_at}
use Rattle.pools.specs.Equations.{last_place}

module _ {V : Type 0} (K : Field V) where
  open K use {add, add_assoc}

  -- a sum in two parts
  sum_parts : (d n : ℕ) (f : ℕ → V) → field.sum K (d + n) f ≡ add (field.sum K d f) (field.sum K n (λ k. f (d + k)))
  sum_parts d zero f = rw add-zero (sym (K.add_zero _))
  sum_parts d (suc n) f = rw add-suc (ap (λ s. add s (f (d + n))) (sum_parts d n f) ∙ add_assoc _ _ _)

-- tried as `rw`, which finds no place for the step
pub dot_same : (F : Arithmetic) (t : ℕ) (a b x y : ℕ → ℕ) → ((k : ℕ) → k < t → a k ≡ b k) → ((k : ℕ) → k < t → x k ≡ y k) → dot F t a x ≡ dot F t b y
dot_same F zero a b x y f g = refl
dot_same F (suc t) a b x y f g =
    ap₂ F.add (dot_same F t a b x y (λ k l. f k (omega arith)) (λ k l. g k (omega arith)))
    (ap₂ F.mul (f t (omega arith)) (g t (omega arith)))

last_here : (t : ℕ) → last_place t (t - 1) ≡ 1
unfolding last_place
last_here t = ap (λ b. cond b 1 0) (eq-eqb (t - 1) (t - 1) refl)

last_else : (t k : ℕ) → k ≢ t - 1 → last_place t k ≡ 0
unfolding last_place
last_else t k d = ap (λ b. cond b 1 0) (ne_eqb k (t - 1) d)

-- zeros and a one at the last of t places
pub reads_last : (n t : ℕ) → 1 ≤ t → t ≤ n → (k : ℕ) → k < t → ◌≡◌ {A = ℕ} (get_or (set (replicate n 0) (t - 1) 1) k 0) (last_place t k)
unfolding last_place
reads_last n t l m k h = grind (arith, elements, nat_tests, zeros_at)

module _ (F : Arithmetic) (L : Laws F) where
  el_derivative : (t d u : ℕ) (a : ℕ → ℕ) → d ≤ t → el F L (derivative F t d u a) ≡ field.dot (field_of F L) t (λ i. el F L (coefficient F d u i)) (λ i. el F L (a i))
  unfolding field.dot
  el_derivative t d u a l =
      let K = field_of F L in
      let e : ℕ → Code F = el F L in
      let f : ℕ → Code F = λ i. K.mul (e (coefficient F d u i)) (e (a i)) in
      el_sum F L (t - d) _
      ∙ sum_ext K (t - d) _ (λ k. f (d + k)) (λ k m.
      el_mul F L _ _ ∙ ap (λ s. K.mul s (e (power F u k))) (el_mul F L _ _)
      ∙ K.mul_assoc _ _ _ ∙ ap (K.mul _) (K.mul_comm _ _) ∙ sym (K.mul_assoc _ _ _)
      ∙ ap (λ s. K.mul s (e (a (d + k)))) (sym (el_mul F L _ _) ∙ ap e (sym (coefficient_high F d u k))))
      ∙ sym (zero_add K _)
      ∙ ap (λ s. K.add s (field.sum K (t - d) (λ k. f (d + k)))) (sym (sum_zero K d f (λ i m. ap (λ s. K.mul s (e (a i))) (ap e (coefficient_low F d u i m) ∙ el_zero F L) ∙ zero_mul K _)))
      ∙ sym (sum_parts K d (t - d) f)
      ∙ ap (λ (n : ℕ). field.sum K n f) (omega arith)

  pub derivative_dot : (t d u : ℕ) (a : ℕ → ℕ) → d ≤ t → derivative F t d u a ≡ dot F t (coefficient F d u) a
  derivative_dot t d u a l =
      el_same F L _ _ (sum_below F L _ _) (sum_below F L _ _) (el_derivative t d u a l ∙ sym (el_dot F L t (coefficient F d u) a))

  pub last_dot : (t : ℕ) (x : ℕ → ℕ) → 0 < t → x (t - 1) < F.size → dot F t (last_place t) x ≡ x (t - 1)
  last_dot t x p l =
      let K = field_of F L in
      let e : ℕ → Code F = el F L in
      el_same F L _ _ (sum_below F L _ _) l
      (el_dot F L t (last_place t) x
      ∙ dot_single K t _ _ (t - 1) (omega arith) (λ k m n. ap (λ s. K.mul (e s) (e (x k))) (last_else t k n) ∙ ap (λ s. K.mul s (e (x k))) (el_zero F L) ∙ zero_mul K _)
      ∙ ap (λ s. K.mul (e s) (e (x (t - 1)))) (last_here t) ∙ ap (λ s. K.mul s (e (x (t - 1)))) (el_one F L) ∙ one_mul K _)
