-- Arithmetic modulo a number.
--   Prime     at least two, and no number from two on and below it divides it
--   modulo    adding and multiplying by remainders; the inverse of a is the number whose product with a leaves one
--   wide      the wide field: modulo 65,537
-- Assumes nothing.
use Rattle.std.specs.Prelude.{ℕ, ◌+◌, ◌-◌, ◌*◌, ◌%◌, ◌<◌, ◌≤◌, ◌≢◌}
use Rattle.fields.specs.Arithmetic.{Arithmetic}
use Rattle.fields.specs.Partners.{partner}

pub record Prime (m : ℕ) : Type 0 where
  pub two : 2 ≤ m
  pub no_divisor : (d : ℕ) → 2 ≤ d → d < m → m % d ≢ 0

abbrev pub modulo : ℕ → Arithmetic
modulo m = record {
  size = m;
  add = λ a b. (a + b) % m;
  neg = λ a. (m - a % m) % m;
  mul = λ a b. a * b % m;
  inv = λ a. partner (λ a b. a * b % m) m a;
}

abbrev pub wide : Arithmetic
wide = modulo 65537
