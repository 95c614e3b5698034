-- Cards and the key in the words of linear equations. These stand in the contracts of private functions only: they carry the
-- proof of judging, and nobody has to believe them.
--   last_place     the linear form that reads the last of t places
--   Says           an equation that says of the coefficients what a card says
--   AllSay         as many equations as cards, each for the card at its place
--   ReadsKey       a form that reads the last of t places
--   verdict_by     what is decided of the key's form, as a verdict on w words
--   Padded         zeros follow the w words that are decided, up to 16
-- Assumes nothing.
use Rattle.std.specs.Prelude.{◌≡◌, ℕ, ◌-◌, ◌<◌, ◌≤◌, cond, List, [], ◌∷◌, length, take, drop, replicate, ◌==◌, slice_index}
use Rattle.fields.specs.Arithmetic.{Arithmetic}
use Rattle.linear.specs.declared.decide.Decision.{Decision}
use Rattle.linear.specs.declared.decide.Decision.TheVariants.{Contradictory, Open, Decided}
use Rattle.linear.specs.declared.equation.Equation.{Equation}
use Rattle.linear.specs.declared.equation.Form.{Form}
use Rattle.sharing.specs.Cards.{Card, top, order}
use Rattle.sharing.specs.Multipliers.{coefficient}
use Rattle.pools.specs.Verdicts.{Verdict, contradictory, undecided, decided}

unfoldable pub last_place : ℕ → ℕ → ℕ
last_place t k = cond (k == t - 1) 1 0

pub record Says (F : Arithmetic) (ts : List ℕ) (w : ℕ) (c : Card) (e : Equation) : Type 0 where
  pub left : (k : ℕ) → k < top ts → slice_index e.coefficients k ≡ coefficient F (order ts c.level) c.id k
  pub right : (j : ℕ) → j < w → slice_index e.right_sides j ≡ slice_index c.values j

-- each equation says what the card at its place says
abbrev pub AllSay : Arithmetic → List ℕ → ℕ → List Card → List Equation → Type 0
AllSay F ts w [] [] = Unit {0}
AllSay F ts w [] (e ∷ es) = ⊥
AllSay F ts w (c ∷ cs) [] = ⊥
AllSay F ts w (c ∷ cs) (e ∷ es) = Says F ts w c e × AllSay F ts w cs es

pub record ReadsKey (t : ℕ) (form : Form) : Type 0 where
  pub reads : (k : ℕ) → k < t → slice_index form.coefficients k ≡ last_place t k

abbrev pub verdict_by : ℕ → Decision → Verdict
verdict_by w Contradictory = contradictory
verdict_by w Open = undecided
verdict_by w (Decided values) = decided (take w values)

abbrev pub Padded : ℕ → Decision → Type 0
Padded w Contradictory = Unit {0}
Padded w Open = Unit {0}
Padded w (Decided values) = (length values ≡ 16) × (w ≤ 16) × (drop w values ≡ replicate (16 - w) 0)
