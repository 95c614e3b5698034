-- What a card says of the coefficients.
--   coefficient     by what the coefficient at place i is multiplied in the value of a card of order d and id u: nothing below
--                   the order, and then the product in front times a power of the id
--   MultipliesTo    32 numbers: the multipliers of the first t places, and zeros after them
--   Multiplies      the same, for the cards of a level and an id
-- Assumes nothing.
use Rattle.std.specs.Prelude.{◌≡◌, ℕ, ◌-◌, ◌<◌, ◌≤◌, cond, List, length, nat_le, slice_index}
use Rattle.fields.specs.Arithmetic.{Arithmetic}
use Rattle.sharing.specs.Cards.{falling, power, top, order}

unfoldable pub coefficient : Arithmetic → ℕ → ℕ → ℕ → ℕ
coefficient F d u i = cond (nat_le d i) (F.mul (falling F i d) (power F u (i - d))) 0

pub record MultipliesTo (F : Arithmetic) (t d u : ℕ) (xs : List ℕ) : Type 0 where
  pub long : length xs ≡ 32
  pub each : (k : ℕ) → k < t → slice_index xs k ≡ coefficient F d u k
  pub rest : (k : ℕ) → t ≤ k → slice_index xs k ≡ 0

abbrev pub Multiplies : Arithmetic → List ℕ → ℕ → ℕ → List ℕ → Type 0
Multiplies F ts level id xs = MultipliesTo F (top ts) (order ts level) id xs
