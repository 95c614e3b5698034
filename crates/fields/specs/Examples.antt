-- Worked examples of both fields; those of products in the byte field are from FIPS 197.
--   Examples    all of them: first what the definitions give, then sums, products and inverses of both fields
-- Assumes nothing.
use Rattle.std.specs.Prelude.{◌≡◌, ◌*◌, ◌%◌, Some, None}
use Rattle.fields.specs.Bytes.{if_set, xtime, shifted, bytes}
use Rattle.fields.specs.Modulo.{modulo, wide}
use Rattle.fields.specs.Partners.{partner}
use Rattle.fields.specs.Polynomials.{times, Remainder}
use Rattle.fields.specs.Sums.{sum}

pub record Examples : Type 0 where
  pub bit_not_set : if_set 0 27 ≡ 0
  pub bit_set : if_set 1 27 ≡ 27
  -- 0x57 times x is 0xae, that times x is 0x47, and 0x57 times x^4 is 0x07
  pub times_x : xtime 0x57 ≡ 0xae
  pub times_x_passing : xtime 0xae ≡ 0x47
  pub times_x_four : shifted 4 0x57 ≡ 0x07
  -- the product of the polynomials 0x57 and 0x83, and its remainder 0xc1
  pub polynomials : times 8 0x57 0x83 ≡ 0x2b79
  pub remainder : Remainder 0x2b79 0xc1
  -- modulo 7 the inverse of 3 is 5 and 0 has none; modulo 6 neither has 2
  pub partner_found : partner (λ a b. a * b % 7) 7 3 ≡ Some 5
  pub no_partner_of_zero : partner (λ a b. a * b % 7) 7 0 ≡ None
  pub no_partner_of_a_divisor : partner (λ a b. a * b % 6) 6 2 ≡ None
  pub negative : (modulo 7).neg 3 ≡ 4
  pub negative_of_zero : (modulo 7).neg 7 ≡ 0
  -- the sum of 0, 1, 2 and 3, in either field
  pub sum_wide : sum wide 4 (λ k. k) ≡ 6
  pub sum_bytes : sum bytes 4 (λ k. k) ≡ 0
  pub byte_sum : bytes.add 87 131 ≡ 212
  pub byte_sum_read : bytes.add 343 387 ≡ 212
  pub byte_negative : bytes.neg 87 ≡ 87
  pub byte_product : bytes.mul 87 131 ≡ 193
  pub byte_multiple : bytes.mul 87 19 ≡ 254
  pub wide_square : wide.mul 65536 65536 ≡ 1
  pub wide_half : wide.inv 2 ≡ Some 32769
