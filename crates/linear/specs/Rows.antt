-- What the steps of the elimination do, in numbers. These words stand in the contracts of private functions only: they
-- carry the proof of `decide`, and nobody has to believe them.
--   Rewritten             places from one to before another hold what a function gives, the others are as they were
--   plus, times, negated  what the three steps on numbers give at a place
--   Cleared               from column p on the multiple of the pivot row was taken off that leaves zero at p
--   Scaled                from column p on the row was multiplied by the factor
--   Zeros                 whether each of the first numbers stands for zero
--   Leftover              what an equation tells of which nothing is left on the left: its right sides are zero too, or not
--   Negation, Reading     what a cleared form tells: where nothing is left of it, its negated right sides
--   Leads, InEchelonForm  a row has zeros before column p and a one there; so has each row at its column
--   Meets, Solves         the values satisfy the row at a column, and those at all columns
--   Joined                the rows after an equation was taken in are solved by what solves those before and the equation
--   Clash                 nothing that solves the rows satisfies the equation
--   Inserts               what an insertion claims: the equation joined the rows, or it clashes with them
--   AllSatisfied          the values satisfy each equation of a list
--   NeverSatisfied        no values do
--   Stands                the rows are solved by just what satisfies each equation of a list
--   Promise               a decision is right, no other is, and it is right for the equations in any order
-- Assumes nothing.
use Rattle.std.specs.Prelude.{◌≡◌, ℕ, ◌%◌, ◌<◌, ◌≤◌, Bool, true, false, ◌↔◌, List, length, Some, None, Option, Ok, Err, Result, ◌≢◌, slice_index_or}
use mathlib.Core.List.{Memᴰ as In}
use Rattle.fields.specs.Arithmetic.{Arithmetic}
use Rattle.linear.specs.declared.equation.Equation.{Equation}
use Rattle.linear.specs.declared.system.Contradiction.{Contradiction}
use Rattle.linear.specs.declared.equation.Form.{Form}
use Rattle.linear.specs.declared.decide.Decision.{Decision}
use Rattle.linear.specs.declared.decide.Decision.TheVariants as decision
use Rattle.linear.specs.Solutions.{Values, entry, Satisfies, Decides, SameMembers}

pub record Rewritten (f : ℕ → ℕ) (from to : ℕ) (before after : List ℕ) : Type 0 where
  pub inside : (k : ℕ) → from ≤ k → k < to → entry after k ≡ f k
  pub below : (k : ℕ) → k < from → entry after k ≡ entry before k
  pub above : (k : ℕ) → to ≤ k → entry after k ≡ entry before k

abbrev pub plus : Arithmetic → ℕ → List ℕ → List ℕ → ℕ → ℕ
plus F factor others numbers k = F.add (entry numbers k) (F.mul factor (entry others k))

abbrev pub times : Arithmetic → ℕ → List ℕ → ℕ → ℕ
times F factor numbers k = F.mul factor (entry numbers k)

abbrev pub negated : Arithmetic → List ℕ → ℕ → ℕ
negated F numbers k = F.neg (entry numbers k)

pub record Cleared (F : Arithmetic) (t w p : ℕ) (pivot before after : Equation) : Type 0 where
  pub left : Rewritten (plus F (F.neg (entry before.coefficients p)) pivot.coefficients before.coefficients) p t before.coefficients after.coefficients
  pub right : Rewritten (plus F (F.neg (entry before.coefficients p)) pivot.right_sides before.right_sides) 0 w before.right_sides after.right_sides

pub record Scaled (F : Arithmetic) (t w p factor : ℕ) (before after : Equation) : Type 0 where
  pub left : Rewritten (times F factor before.coefficients) p t before.coefficients after.coefficients
  pub right : Rewritten (times F factor before.right_sides) 0 w before.right_sides after.right_sides

abbrev pub Zeros : Arithmetic → ℕ → List ℕ → Bool → Type 0
Zeros F to numbers true = (k : ℕ) → k < to → F.add (entry numbers k) 0 ≡ 0
Zeros F to numbers false = (k : ℕ) × (k < to) × (F.add (entry numbers k) 0 ≢ 0)

abbrev pub Leftover : Arithmetic → ℕ → Equation → Result (Unit {0}) Contradiction → Type 0
Leftover F w row (Ok _) = Zeros F w row.right_sides true
Leftover F w row (Err _) = Zeros F w row.right_sides false

pub record Negation (F : Arithmetic) (t w : ℕ) (row : Equation) (values : List ℕ) : Type 0 where
  pub nothing_left : Zeros F t row.coefficients true
  pub negates : Rewritten (negated F row.right_sides) 0 w row.right_sides values
  pub full : length values ≡ 16

abbrev pub Reading : Arithmetic → ℕ → ℕ → Equation → Decision → Type 0
Reading F t w row decision.Contradictory = ⊥
Reading F t w row decision.Open = Zeros F t row.coefficients false
Reading F t w row (decision.Decided values) = Negation F t w row values

abbrev pub Leads : Arithmetic → ℕ → Equation → Type 0
Leads F p e = (entry e.coefficients p % F.size ≡ 1) × ((k : ℕ) → k < p → entry e.coefficients k % F.size ≡ 0)

abbrev pub InEchelonForm : Arithmetic → ℕ → List (Option Equation) → Type 0
InEchelonForm F t rows = (p : ℕ) (e : Equation) → p < t → slice_index_or rows p None ≡ Some e → Leads F p e

module _ (F : Arithmetic) (t w : ℕ) where
  abbrev pub Meets : Option Equation → Values → Type 0
  Meets None x = Unit {0}
  Meets (Some e) x = Satisfies F t w e x

  abbrev pub Solves : List (Option Equation) → Values → Type 0
  Solves rows x = (p : ℕ) → p < t → Meets (slice_index_or rows p None) x

  abbrev pub Joined : List (Option Equation) → Equation → List (Option Equation) → Type 0
  Joined before e after = (x : Values) → Solves after x ↔ (Solves before x × Satisfies F t w e x)

  abbrev pub Clash : List (Option Equation) → Equation → Type 0
  Clash before e = (x : Values) → Solves before x → Satisfies F t w e x → ⊥

  abbrev pub Inserts : List (Option Equation) → Equation → List (Option Equation) → Result (Unit {0}) Contradiction → Type 0
  Inserts before e after (Ok _) = Joined before e after
  Inserts before e after (Err _) = Clash before e

  abbrev pub AllSatisfied : List Equation → Values → Type 0
  AllSatisfied equations x = (e : Equation) → In e equations → Satisfies F t w e x

  abbrev pub NeverSatisfied : List Equation → Type 0
  NeverSatisfied equations = (x : Values) → AllSatisfied equations x → ⊥

  abbrev pub Stands : List Equation → List (Option Equation) → Type 0
  Stands equations rows = (x : Values) → Solves rows x ↔ AllSatisfied equations x

  pub record Promise (equations : List Equation) (form : Form) (r : Decision) : Type 0 where
    pub right : Decides F t w equations form r
    pub only : (d : Decision) → Decides F t w equations form d → d ≡ r
    pub in_any_order : (others : List Equation) → SameMembers equations others → Decides F t w others form r
