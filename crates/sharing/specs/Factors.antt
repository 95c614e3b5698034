-- A table of whole numbers as elements; inner to the issuing and the judging of cards.
--   Wholes    32 numbers, of which the nth stands for n
-- Assumes nothing.
use Rattle.std.specs.Prelude.{◌≡◌, ℕ, ◌<◌, List, length, slice_index}
use Rattle.fields.specs.Arithmetic.{Arithmetic}
use Rattle.sharing.specs.Cards.{whole}

pub record Wholes (F : Arithmetic) (elements : List ℕ) : Type 0 where
  pub long : length elements ≡ 32
  pub each : (n : ℕ) → n < 32 → slice_index elements n ≡ whole F n
