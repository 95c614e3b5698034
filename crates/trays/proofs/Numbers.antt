-- Numbers of four bytes each, one after the other.
--   length_numbers   how many they are
--   of_chunks        they are the numbers of the bytes' chunks of four
--   one_written      one more number, written over the first of the zeros after those of some chunks
-- Assumes nothing.
use Rattle.std.proofs.Common.{◌≡◌, ℕ, zero, suc, ◌+◌, ◌-◌, ◌<◌, ◌≤◌, List, [], ◌∷◌, ◌++◌, map, length, get_or, take, drop, set, replicate, sym, refl, ap, ◌∙◌, arith}
use Rattle.std.specs.Simd.{first_chunks}
use Rattle.std.proofs.lemmas.List.{append_assoc, length-map, length-take-le, map_more, set_at}
use Rattle.trays.specs.Cards.{little_endian, numbers}

pub length_numbers : (n : ℕ) (bs : List ℕ) → length (numbers n bs) ≡ n
length_numbers zero bs = refl
length_numbers (suc n) bs = ap suc (length_numbers n (drop 4 bs))

pub of_chunks : (n : ℕ) (bs : List ℕ) → map little_endian (first_chunks 4 n bs) ≡ numbers n bs
of_chunks zero bs = refl
of_chunks (suc n) bs = ap (λ xs. little_endian (take 4 bs) ∷ xs) (of_chunks n (drop 4 bs))

pub one_written : (xs : List (List ℕ)) (i m : ℕ) (x : List ℕ) → i < length xs → length xs ≤ m
    → set (map little_endian (take i xs) ++ replicate (m - i) 0) i (little_endian (get_or xs i x)) ≡ map little_endian (take (i + 1) xs) ++ replicate (m - (i + 1)) 0
one_written xs i m x h l =
    let front = map little_endian (take i xs) in
    let v = little_endian (get_or xs i x) in
    let zeros : List ℕ = replicate (m - (i + 1)) 0 in
    let less : m - i ≡ suc (m - (i + 1)) = omega arith in
    let long : length front ≡ i = length-map (take i xs) little_endian ∙ length-take-le i xs (omega arith) in
    ap (λ k. set (front ++ replicate k 0) i v) less
    ∙ set_at front 0 zeros v i long
    ∙ sym (append_assoc front (v ∷ []) zeros)
    ∙ ap (λ ys. ys ++ zeros) (sym (map_more little_endian xs i x h))
