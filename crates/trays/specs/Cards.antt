-- The bytes of a card, as numbers. A card has a level byte, four id bytes, and four bytes for each of its values.
--   little_endian   the number that bytes stand for, the lowest first
--   numbers         so many numbers of four bytes each, one after the other
--   level_in        the level of a card
--   id_in           its id
--   values_in       its values, for a number of words
--   Sized           bytes are as long as a card of so many words, which are no more and no fewer than a tray may have
--   Says            bytes are a card, and these are its level, its id, and its values with zeros after them
-- Assumes nothing.
use Rattle.std.specs.Prelude.{◌≡◌, ℕ, zero, suc, ◌+◌, ◌-◌, ◌*◌, ◌≤◌, List, [], ◌∷◌, ◌++◌, length, take, drop, replicate, slice_index}
use Rattle.trays.specs.Layout.{card_size}

abbrev pub little_endian : List ℕ → ℕ
little_endian [] = 0
little_endian (b ∷ bs) = b + 256 * little_endian bs

abbrev pub numbers : ℕ → List ℕ → List ℕ
numbers zero bytes = []
numbers (suc n) bytes = little_endian (take 4 bytes) ∷ numbers n (drop 4 bytes)

abbrev pub level_in : List ℕ → ℕ
level_in bytes = slice_index bytes 0

abbrev pub id_in : List ℕ → ℕ
id_in bytes = little_endian (take 4 (drop 1 bytes))

abbrev pub values_in : ℕ → List ℕ → List ℕ
values_in w bytes = numbers w (drop 5 bytes)

pub record Sized (w : ℕ) (bytes : List ℕ) : Type 0 where
  pub low : 1 ≤ w
  pub high : w ≤ 16
  pub long : length bytes ≡ card_size w

pub record Says (w : ℕ) (bytes : List ℕ) (level id : ℕ) (values : List ℕ) : Type 0 where
  pub sized : Sized w bytes
  pub level_is : level ≡ level_in bytes
  pub id_is : id ≡ id_in bytes
  pub values_are : values ≡ values_in w bytes ++ replicate (16 - w) 0
