-- Coefficients that fit.
--   Fit, fit   coefficients that no condition refuses: there are w × t of them, each an element
-- Assumes nothing.
use Rattle.std.proofs.Common.{◌≡◌, ℕ, ◌*◌, Bool, true, false, cond, not, eqb, leb, List, length, Some, None, Option, refl, arith}
use Rattle.std.specs.List.{list_any}
use Rattle.fields.specs.Arithmetic.{Arithmetic}
use Rattle.sharing.specs.Cards.{top}
use Rattle.sharing.specs.Refusals.{refuses_loading}

pub record Fit (F : Arithmetic) (n : ℕ) (x : List ℕ) : Type 0 where
  pub long : not (eqb (length x) n) ≡ false
  pub elements : list_any (λ a. leb F.size a) x ≡ false

-- by the two tests
fit_by : (F : Arithmetic) (n : ℕ) (x : List ℕ) (b c : Bool) → not (eqb (length x) n) ≡ b → list_any (λ a. leb F.size a) x ≡ c
    → ◌≡◌ {A = Option ℕ} None (cond b (Some 6) (cond c (Some 7) None)) → Fit F n x
fit_by F n x true c e f h = let z : ◌≡◌ {A = ℕ} 0 1 = cc in absurd (omega arith)
fit_by F n x false true e f h = let z : ◌≡◌ {A = ℕ} 0 1 = cc in absurd (omega arith)
fit_by F n x false false e f h = record { long = e; elements = f }

pub fit : (F : Arithmetic) (ts : List ℕ) (w : ℕ) (x : List ℕ) → None ≡ refuses_loading F ts w x → Fit F (w * top ts) x
fit F ts w x h = fit_by F (w * top ts) x _ _ refl refl h
