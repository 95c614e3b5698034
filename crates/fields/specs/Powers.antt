-- The power 254 of a byte, which is its inverse: one test of all 255 bytes but zero, which the checker computes.
--   reads, reads_left    multiplying reads its factors by their remainders
--   chain                a to the power 2^(n + 1) - 1
--   power254             a to the power 254
--   power254_inverts     its product with a is one
-- Assumes nothing.
use Rattle.std.specs.Prelude.{◌≡◌, ℕ, zero, suc, ◌%◌, ◌<◌, Bool, T, ◌==◌, ◌≢◌, refl}
use Rattle.std.proofs.Common.{ap, sym, ◌∙◌, le_of_suc-le-suc, eqb→eq}
use Rattle.std.proofs.Math.Nat.{mod-mod}
use Rattle.fields.specs.Bytes.{if_set, xtime, shifted, product, multiply}
use Rattle.fields.specs.Each.{each, at}

pub reads : (a b : ℕ) → multiply a b ≡ multiply (a % 256) (b % 256)
unfolding multiply
reads a b = sym (ap (λ (x : ℕ). product 8 x (b % 256 % 256)) (mod-mod a 256) ∙ ap (product 8 (a % 256)) (mod-mod b 256))

pub reads_left : (a b : ℕ) → multiply a b ≡ multiply (a % 256) b
unfolding multiply
reads_left a b = sym (ap (λ (x : ℕ). product 8 x (b % 256)) (mod-mod a 256))

unfoldable pub chain : ℕ → ℕ → ℕ
chain zero a = a
chain (suc n) a = multiply (multiply (chain n a) (chain n a)) a

unfoldable pub power254 : ℕ → ℕ
power254 a = multiply (chain 6 a) (chain 6 a)

inverts : ℕ → Bool
inverts i = multiply (suc i) (power254 (suc i)) == 1

all_invert : T (each 255 inverts)
unfolding if_set xtime shifted product multiply chain power254 inverts
all_invert = tt

pub power254_inverts : (a : ℕ) → (a ≢ 0) → a < 256 → multiply a (power254 a) ≡ 1
unfolding inverts
power254_inverts zero n h = absurd (n refl)
power254_inverts (suc i) n h = eqb→eq (multiply (suc i) (power254 (suc i))) 1 (at 255 inverts all_invert i (le_of_suc-le-suc h))
