-- What a coefficient is multiplied by in the value of a card.
--   coefficient_low, coefficient_high    below the order, and from it on
--   coefficient_from                     the same, at a place that is not below the order
--   zeros_at                             an array of zeros
-- Assumes nothing.
use Rattle.std.proofs.Common.{◌≡◌, ℕ, zero, suc, ◌+◌, ◌-◌, ◌<◌, ◌≤◌, cond, get_or, replicate, sym, refl, ap, ◌∙◌, arith, le-leb}
use borrow.Author.Tests.{lt-leb}
use Rattle.fields.specs.Arithmetic.{Arithmetic}
use Rattle.sharing.specs.Cards.{power, falling}
use Rattle.sharing.specs.Multipliers.{coefficient}

pub coefficient_low : (F : Arithmetic) (d u i : ℕ) → i < d → coefficient F d u i ≡ 0
unfolding coefficient
coefficient_low F d u i l = ap (λ b. cond b (F.mul (falling F i d) (power F u (i - d))) 0) (lt-leb d i l)

pub coefficient_high : (F : Arithmetic) (d u k : ℕ) → coefficient F d u (d + k) ≡ F.mul (falling F (d + k) d) (power F u k)
unfolding coefficient
coefficient_high F d u k =
    ap (λ b. cond b (F.mul (falling F (d + k) d) (power F u (d + k - d))) 0) (le-leb d (d + k) (omega arith))
    ∙ ap (λ (m : ℕ). F.mul (falling F (d + k) d) (power F u m)) (omega arith)

pub coefficient_from : (F : Arithmetic) (d u i : ℕ) → d ≤ i → coefficient F d u i ≡ F.mul (falling F i d) (power F u (i - d))
coefficient_from F d u i l =
    let e : d + (i - d) ≡ i = omega arith in
    sym (ap (coefficient F d u) e) ∙ coefficient_high F d u (i - d) ∙ ap (λ (n : ℕ). F.mul (falling F n d) (power F u (i - d))) e

pub zeros_at : (n k : ℕ) → ◌≡◌ {A = ℕ} (get_or (replicate n 0) k 0) 0
zeros_at zero k = refl
zeros_at (suc n) zero = refl
zeros_at (suc n) (suc k) = zeros_at n k
