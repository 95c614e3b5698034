-- Lists made from a function of the place.
--   length_row, getD_row    how long such a list is, and what stands in it
--   is_row                  a list that holds f k at each place k
-- Assumes nothing.
use Rattle.std.proofs.Common.{◌≡◌, ℕ, zero, suc, ◌+◌, ◌<◌, List, length, get_or, sym, refl, ap, ◌∙◌, add-zero, arith, ext_get_or}
use Rattle.sharing.specs.Cards.{row_from, row}

length_row_from : (i n : ℕ) (f : ℕ → ℕ) → length (row_from i n f) ≡ n
length_row_from i zero f = refl
length_row_from i (suc n) f = ap suc (length_row_from (suc i) n f)

getD_row_from : (i n : ℕ) (f : ℕ → ℕ) (k j : ℕ) → k < n → i + k ≡ j → get_or (row_from i n f) k 0 ≡ f j
getD_row_from i zero f k j l e = absurd (omega arith)
getD_row_from i (suc n) f zero j l e = ap f (sym (add-zero i) ∙ e)
getD_row_from i (suc n) f (suc k) j l e = getD_row_from (suc i) n f k j (omega arith) (omega arith)

pub length_row : (n : ℕ) (f : ℕ → ℕ) → length (row n f) ≡ n
length_row n f = length_row_from 0 n f

pub getD_row : (n : ℕ) (f : ℕ → ℕ) (k : ℕ) → k < n → get_or (row n f) k 0 ≡ f k
getD_row n f k l = getD_row_from 0 n f k k l (omega arith)

pub is_row : (xs : List ℕ) (n : ℕ) (f : ℕ → ℕ) → length xs ≡ n → ((k : ℕ) → k < n → get_or xs k 0 ≡ f k) → xs ≡ row n f
is_row xs n f e h = ext_get_or 0 xs (row n f) (e ∙ sym (length_row n f)) (λ k l. let m : k < n = omega arith in h k m ∙ sym (getD_row n f k m))
