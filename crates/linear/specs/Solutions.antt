-- What a list of linear equations says of a linear form, over a field.
--   Values              one number for each unknown, as many times as there are right sides
--   entry               what stands at a place of an array
--   dot                 the sum of the products of coefficients and values
--   Satisfies           the values give the left side of the equation each right side that it has
--   Solution            elements of the field that satisfy every equation of a list
--   NoSolution          there is none
--   EveryValuePossible  whatever elements are wanted, some solution gives the form just these
--   OneValue            there is a solution, and every solution gives the form the same values
--   Decides             what is claimed by each decision
--   OneDecision         of any equations and any form one decision is right, and no other
--   SameMembers         two lists that have the same equations, in any order and any number of times
--   OrderDoesNotMatter  what is right for a list is right for every list with the same equations
-- Here t is the number of unknowns and w that of the right sides; `In e equations` says that e stands in the list. Every
-- number is read as its remainder by the size.
-- Assumes nothing.
use Rattle.std.specs.Prelude.{◌≡◌, ℕ, ◌%◌, ◌<◌, ◌≤◌, List, length, slice_index}
use mathlib.Core.List.{Memᴰ as In}
use Rattle.fields.specs.Arithmetic.{Arithmetic, Laws}
use Rattle.fields.specs.Sums.{sum}
use Rattle.linear.specs.declared.equation.Equation.{Equation}
use Rattle.linear.specs.declared.equation.Form.{Form}
use Rattle.linear.specs.declared.decide.Decision.{Decision}
use Rattle.linear.specs.declared.decide.Decision.TheVariants.{Contradictory, Open, Decided}

-- for the right side j the number at the unknown k
abbrev pub Values : Type 0
Values = ℕ → ℕ → ℕ

-- what stands at place k of an array
abbrev pub entry : List ℕ → ℕ → ℕ
entry xs k = slice_index xs k

abbrev pub dot : Arithmetic → ℕ → (ℕ → ℕ) → (ℕ → ℕ) → ℕ
dot F t a x = sum F t (λ k. F.mul (a k) (x k))

module _ (F : Arithmetic) (t w : ℕ) where
  abbrev pub Satisfies : Equation → Values → Type 0
  Satisfies e x = (j : ℕ) → j < w → dot F t (entry e.coefficients) (x j) ≡ entry e.right_sides j % F.size

  pub record Solution (equations : List Equation) (x : Values) : Type 0 where
    pub elements : (j k : ℕ) → j < w → k < t → x j k < F.size
    pub satisfies : (e : Equation) → In e equations → Satisfies e x

  abbrev pub NoSolution : List Equation → Type 0
  NoSolution equations = (x : Values) → Solution equations x → ⊥

  abbrev pub EveryValuePossible : List Equation → Form → Type 0
  EveryValuePossible equations form =
      (wanted : ℕ → ℕ) → ((j : ℕ) → j < w → wanted j < F.size)
      → (x : Values) × Solution equations x × ((j : ℕ) → j < w → dot F t (entry form.coefficients) (x j) ≡ wanted j)

  -- the array of the values is pinned whole: 16 numbers, 0 past the right sides
  pub record OneValue (equations : List Equation) (form : Form) (values : List ℕ) : Type 0 where
    pub possible : (x : Values) × Solution equations x
    pub forced : (x : Values) → Solution equations x → (j : ℕ) → j < w → dot F t (entry form.coefficients) (x j) ≡ entry values j
    pub full : length values ≡ 16
    pub rest : (j : ℕ) → w ≤ j → entry values j ≡ 0

  abbrev pub Decides : List Equation → Form → Decision → Type 0
  Decides equations form Contradictory = NoSolution equations
  Decides equations form Open = EveryValuePossible equations form
  Decides equations form (Decided values) = OneValue equations form values

abbrev pub OneDecision : Type 0
OneDecision =
    (F : Arithmetic) → Laws F → (t w : ℕ) → 1 ≤ w → w ≤ 16 → (equations : List Equation) (form : Form)
    → (d : Decision) × Decides F t w equations form d × ((e : Decision) → Decides F t w equations form e → e ≡ d)

pub record SameMembers (first second : List Equation) : Type 0 where
  pub there : (e : Equation) → In e first → In e second
  pub back : (e : Equation) → In e second → In e first

abbrev pub OrderDoesNotMatter : Type 0
OrderDoesNotMatter =
    (F : Arithmetic) (t w : ℕ) (first second : List Equation) → SameMembers first second
    → (form : Form) (d : Decision) → Decides F t w first form d → Decides F t w second form d
