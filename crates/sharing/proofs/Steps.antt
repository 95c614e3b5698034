-- One step of each sum and product, as a loop takes it.
--   power_more                              from n to n + 1
--   term, term_more, term_at                a term of a derivative, the sum with one term more, and the term at a place
--   derivative_same                         a derivative reads the coefficients below its number of them alone
-- Assumes nothing.
use Rattle.std.proofs.Common.{◌≡◌, ℕ, zero, suc, ◌+◌, ◌-◌, ◌<◌, ◌≤◌, refl, ap, ap₂, add-one, arith}
use Rattle.fields.specs.Arithmetic.{Arithmetic}
use Rattle.fields.specs.Sums.{sum}
use Rattle.sharing.specs.Cards.{power, falling, derivative}

module _ (F : Arithmetic) where
  pub power_more : (u n : ℕ) → power F u (n + 1) ≡ F.mul (power F u n) u
  power_more u n = ap (power F u) (add-one n)

  -- what the coefficient d + k adds to the derivative of order d at u
  abbrev pub term : ℕ → ℕ → (ℕ → ℕ) → ℕ → ℕ
  term d u a k = F.mul (F.mul (falling F (d + k) d) (a (d + k))) (power F u k)

  pub term_more : (d u : ℕ) (a : ℕ → ℕ) (n : ℕ) → sum F (n + 1) (term d u a) ≡ F.add (sum F n (term d u a)) (term d u a n)
  term_more d u a n = ap (λ (k : ℕ). sum F k (term d u a)) (add-one n)

  pub term_at : (d u : ℕ) (a : ℕ → ℕ) (i : ℕ) → d ≤ i → term d u a (i - d) ≡ F.mul (F.mul (falling F i d) (a i)) (power F u (i - d))
  term_at d u a i l = ap (λ j. F.mul (F.mul (falling F j d) (a j)) (power F u (i - d))) (omega arith)

  sum_same : (n : ℕ) (f g : ℕ → ℕ) → ((k : ℕ) → k < n → f k ≡ g k) → sum F n f ≡ sum F n g
  sum_same zero f g h = refl
  sum_same (suc n) f g h = ap₂ F.add (sum_same n f g (λ k l. h k (omega arith))) (h n (omega arith))

  pub derivative_same : (t d u : ℕ) (a b : ℕ → ℕ) → ((i : ℕ) → i < t → a i ≡ b i) → derivative F t d u a ≡ derivative F t d u b
  derivative_same t d u a b h =
      sum_same (t - d) _ _ (λ k l. ap (λ v. F.mul (F.mul (falling F (d + k) d) v) (power F u k)) (h (d + k) (omega arith)))
