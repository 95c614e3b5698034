-- The bytes as a field, after FIPS 197: a byte is a polynomial over bits, its bit i the coefficient of x^i.
-- Adding is exclusive or, and multiplying is that of polynomials modulo x^8 + x^4 + x^3 + x + 1, which is 0x11b.
--   if_set           a, if the bit is set
--   xtime            a times x: a shift to the left, and 0x1b more if the top bit was set
--   shifted          a times x^i
--   product          the sum of a times x^i over the bits i of b that are set, of its n lowest
--   add, multiply    the sum and the product of two bytes, each told by a number that is read as its remainder
--   bytes            the arithmetic of the byte field
-- Assumes nothing.
use Rattle.std.specs.Prelude.{ℕ, zero, suc, ◌*◌, ◌/◌, ◌%◌, ◌^◌, bit_xor}
use Rattle.fields.specs.Arithmetic.{Arithmetic}
use Rattle.fields.specs.Partners.{partner}

unfoldable pub if_set : ℕ → ℕ → ℕ
if_set zero a = 0
if_set (suc bit) a = a

unfoldable pub xtime : ℕ → ℕ
xtime a = bit_xor (a * 2 % 256) (if_set (a / 128 % 2) 0x1b)

unfoldable pub shifted : ℕ → ℕ → ℕ
shifted zero a = a
shifted (suc i) a = xtime (shifted i a)

unfoldable pub product : ℕ → ℕ → ℕ → ℕ
product zero a b = 0
product (suc i) a b = bit_xor (product i a b) (if_set (b / 2 ^ i % 2) (shifted i a))

abbrev pub add : ℕ → ℕ → ℕ
add a b = bit_xor (a % 256) (b % 256)

unfoldable pub multiply : ℕ → ℕ → ℕ
multiply a b = product 8 (a % 256) (b % 256)

abbrev pub bytes : Arithmetic
bytes = record { size = 256; add = add; neg = λ a. a % 256; mul = multiply; inv = λ a. partner multiply 256 a }
