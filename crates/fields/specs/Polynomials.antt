-- What multiplying bytes means: the remainder of the product of two polynomials over bits.
--   times        the product of the polynomials a and b, of which b has n coefficients: the sum of a shifted by i over the bits
--                i of b that are set
--   Remainder    r is the remainder of the polynomial p by x^8 + x^4 + x^3 + x + 1: p is a multiple of it plus r, and r is of
--                degree less than 8
-- Assumes nothing.
use Rattle.std.specs.Prelude.{◌≡◌, ℕ, zero, suc, ◌*◌, ◌/◌, ◌%◌, ◌^◌, ◌<◌, bit_xor}
use Rattle.fields.specs.Bytes.{if_set}

unfoldable pub times : ℕ → ℕ → ℕ → ℕ
times zero a b = 0
times (suc i) a b = bit_xor (times i a b) (if_set (b / 2 ^ i % 2) (a * 2 ^ i))

pub record Remainder (p r : ℕ) : Type 0 where
  pub quotient : ℕ
  pub small : r < 256
  pub whole : p ≡ bit_xor (times 9 quotient 0x11b) r
