-- The sum on a card is the formal derivative.
--   sum_same                   sums of equal terms are equal
--   falling_more               a falling product with its first factor taken out
--   order_none, order_more     the derivative of order 0 is the value; that of order d + 1 is that of order d of the derived
--                              polynomial
--   cards_carry_derivatives    both
-- Assumes nothing.
use Rattle.std.proofs.Common.{◌≡◌, ℕ, zero, suc, ◌+◌, ◌-◌, sym, refl, ap, ◌∙◌, ap₂, suc-add, zero-add, arith}
use Rattle.fields.specs.Arithmetic.{Arithmetic, Laws}
use Rattle.fields.specs.Sums.{sum}
use Rattle.linear.proofs.Codes.{el, el_same, el_mul, el_one, field_of}
use Rattle.linear.proofs.Values.{one_mul}
use Rattle.sharing.specs.Cards.{whole, power, falling, derivative}
use Rattle.pools.specs.Stands.{CardsCarryDerivatives}

module _ (F : Arithmetic) (L : Laws F) where
  sum_same : (n m : ℕ) (f g : ℕ → ℕ) → n ≡ m → ((k : ℕ) → f k ≡ g k) → sum F n f ≡ sum F m g
  sum_same n m f g e h = go n ∙ ap (λ (i : ℕ). sum F i g) e
    where
      go : (n : ℕ) → sum F n f ≡ sum F n g
      go zero = refl
      go (suc n) = ap₂ F.add (go n) (h n)

  falling_more : (i d : ℕ) → el F L (falling F (suc i) (suc d)) ≡ (field_of F L).mul (el F L (whole F (suc i))) (el F L (falling F i d))
  falling_more i zero =
      let e : suc i - 0 ≡ suc i = omega arith in
      el_mul F L _ _ ∙ (field_of F L).mul_comm _ _ ∙ ap (λ (j : ℕ). (field_of F L).mul (el F L (whole F j)) (el F L 1)) e
  falling_more i (suc d) =
      let K = field_of F L in
      let e : suc i - suc d ≡ i - d = omega arith in
      el_mul F L _ _
      ∙ ap₂ K.mul (falling_more i d) (ap (λ (j : ℕ). el F L (whole F j)) e)
      ∙ K.mul_assoc _ _ _ ∙ ap (K.mul _) (sym (el_mul F L _ _))

  order_none : (t u : ℕ) (a : ℕ → ℕ) → derivative F t 0 u a ≡ sum F t (λ i. F.mul (a i) (power F u i))
  order_none t u a =
      sum_same _ t _ _ (omega arith) (λ k.
      ap (λ (i : ℕ). F.mul (F.mul 1 (a i)) (power F u k)) (zero-add k)
      ∙ el_same F L _ _ (L.mul_below _ _) (L.mul_below _ _)
      (el_mul F L _ _ ∙ ap (λ s. (field_of F L).mul s (el F L (power F u k))) (el_mul F L _ _ ∙ ap (λ s. (field_of F L).mul s (el F L (a k))) (el_one F L) ∙ one_mul (field_of F L) _) ∙ sym (el_mul F L _ _)))

  order_more : (t u : ℕ) (a : ℕ → ℕ) (d : ℕ) → derivative F t (suc d) u a ≡ derivative F (t - 1) d u (λ i. F.mul (whole F (suc i)) (a (suc i)))
  order_more t u a d =
      let K = field_of F L in
      sum_same _ _ _ _ (omega arith) (λ k.
      ap (λ (i : ℕ). F.mul (F.mul (falling F i (suc d)) (a i)) (power F u k)) (suc-add d k)
      ∙ ap (λ (s : ℕ). F.mul s (power F u k)) (el_same F L _ _ (L.mul_below _ _) (L.mul_below _ _) (
      el_mul F L _ _ ∙ ap (λ s. K.mul s (el F L (a (suc (d + k))))) (falling_more (d + k) d ∙ K.mul_comm _ _)
      ∙ K.mul_assoc _ _ _ ∙ ap (K.mul _) (sym (el_mul F L _ _)) ∙ sym (el_mul F L _ _))))

pub cards_carry_derivatives : CardsCarryDerivatives
cards_carry_derivatives F L t u a = (order_none F L t u a, order_more F L t u a)
