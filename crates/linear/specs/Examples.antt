-- Worked examples in three unknowns with one right side, over the wide field.
--   equation, form             an equation and a form by their three coefficients
--   values                     the array of one value
--   doubled, clashing, square  three lists of equations
--   WorkedExamples             what they say: of the third unknown nothing, of three times the left side its value; that they
--                              contradict each other; of 1, 10 and 100 times the unknowns their sum
-- Assumes nothing.
use Rattle.std.specs.Prelude.{ℕ, List, [], ◌∷◌, replicate, refl}
use Rattle.fields.specs.Modulo.{wide}
use Rattle.linear.specs.declared.equation.Equation.{Equation}
use Rattle.linear.specs.declared.equation.Form.{Form}
use Rattle.linear.specs.declared.decide.Decision.TheVariants.{Contradictory, Open, Decided}
use Rattle.linear.specs.Solutions.{Decides}

-- a times the first unknown, b times the second and c times the third are s
abbrev pub equation : ℕ → ℕ → ℕ → ℕ → Equation
equation a b c s = record { coefficients = a ∷ b ∷ c ∷ replicate 29 0; right_sides = s ∷ replicate 15 0; unknowns = refl; sides = refl }

abbrev pub form : ℕ → ℕ → ℕ → Form
form a b c = record { coefficients = a ∷ b ∷ c ∷ replicate 29 0; unknowns = refl }

abbrev pub values : ℕ → List ℕ
values v = v ∷ replicate 15 0

-- the second equation is twice the first, and says no more
abbrev pub doubled : List Equation
doubled = equation 1 2 3 6 ∷ equation 2 4 6 12 ∷ []

-- the second equation would be twice the first, but for its right side
abbrev pub clashing : List Equation
clashing = equation 1 2 3 6 ∷ equation 2 4 6 13 ∷ []

-- the unknowns are 1, 2 and 3
abbrev pub square : List Equation
square = equation 1 1 1 6 ∷ equation 1 2 3 14 ∷ equation 1 4 9 36 ∷ []

pub record WorkedExamples : Type 0 where
  pub redundant : Decides wide 3 1 doubled (form 0 0 1) Open
  pub multiple : Decides wide 3 1 doubled (form 3 6 9) (Decided (values 18))
  pub contradictory : Decides wide 3 1 clashing (form 0 0 1) Contradictory
  pub decided : Decides wide 3 1 square (form 1 10 100) (Decided (values 321))
