-- Linear equations with several right sides over a field, t unknowns and w right sides.
--   Row                 coefficients and right sides
--   Assignment          for the right side j the value of the unknown k
--   Basis               at column p the row whose first coefficient other than zero stands there, if there is one
--   Leads, Echelon      what is asked of the row at column p, and of all rows
--   Satisfies, Meets, Solves, AllHold    an assignment satisfies a row, an optional row, a basis, a list of rows
--   Verdict, Means      what can be said of a linear form, and what is claimed by it
-- Assumes nothing.
use Rattle.std.proofs.Common.{◌≡◌, ℕ, ◌<◌, List, [], ◌∷◌, Some, None, Option}
use Rattle.linear.proofs.Fields.{Field, dot}

pub record Row (V : Type 0) : Type 0 where
  pub coef : ℕ → V
  pub rhs : ℕ → V

abbrev pub Assignment : Type 0 → Type 0
Assignment V = ℕ → ℕ → V

abbrev pub Basis : Type 0 → Type 0
Basis V = ℕ → Option (Row V)

abbrev pub Leads : {V : Type 0} (F : Field V) → ℕ → Option (Row V) → Type 0
Leads F p None = Unit {0}
Leads F p (Some e) = (e.coef p ≡ F.one) × ((k : ℕ) → k < p → e.coef k ≡ F.zero)

-- of a linear form: no assignment is left; each list of values can still be had; these are its values
pub data Verdict (V : Type 0) : Type 0 where
  contradictory : Verdict V
  undecided : Verdict V
  decided : (ℕ → V) → Verdict V

module _ {V : Type 0} (F : Field V) (t w : ℕ) where
  abbrev pub Satisfies : Row V → Assignment V → Type 0
  Satisfies e x = (j : ℕ) → j < w → dot F t e.coef (x j) ≡ e.rhs j

  abbrev pub Meets : Option (Row V) → Assignment V → Type 0
  Meets None x = Unit {0}
  Meets (Some e) x = Satisfies e x

  abbrev pub Solves : Basis V → Assignment V → Type 0
  Solves b x = (p : ℕ) → p < t → Meets (b p) x

  abbrev pub Echelon : Basis V → Type 0
  Echelon b = (p : ℕ) → p < t → Leads F p (b p)

  abbrev pub AllHold : List (Row V) → Assignment V → Type 0
  AllHold [] x = Unit {0}
  AllHold (e ∷ es) x = AllHold es x × Satisfies e x

  -- what is claimed of the linear form g where the equations are P
  abbrev pub Means : (P : Assignment V → Type 0) → (ℕ → V) → Verdict V → Type 0
  Means P g contradictory = (x : Assignment V) → P x → ⊥
  Means P g undecided = (wanted : ℕ → V) → (x : Assignment V) × P x × ((j : ℕ) → j < w → dot F t g (x j) ≡ wanted j)
  Means P g (decided v) = ((x : Assignment V) × P x) × ((x : Assignment V) → P x → (j : ℕ) → j < w → dot F t g (x j) ≡ v j)
