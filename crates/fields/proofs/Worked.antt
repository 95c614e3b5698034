-- The worked examples of both fields, by computing.
--   examples    all of them
-- Assumes nothing.
use Rattle.std.proofs.Common.{refl, lit<}
use Rattle.fields.specs.Bytes.{if_set, xtime, shifted, product, multiply}
use Rattle.fields.specs.Examples.{Examples}
use Rattle.fields.specs.Partners.{partner}
use Rattle.fields.specs.Polynomials.{times}
use Rattle.fields.specs.Inverses.{inverse_by}

pub examples : Examples
unfolding if_set xtime shifted product multiply partner times
examples = record {
  bit_not_set = refl;
  bit_set = refl;
  times_x = refl;
  times_x_passing = refl;
  times_x_four = refl;
  polynomials = refl;
  remainder = record { quotient = 0x28; small = lit< tt; whole = refl };
  partner_found = refl;
  no_partner_of_zero = refl;
  no_partner_of_a_divisor = refl;
  negative = refl;
  negative_of_zero = refl;
  sum_wide = refl;
  sum_bytes = refl;
  byte_sum = refl;
  byte_sum_read = refl;
  byte_negative = refl;
  byte_product = refl;
  byte_multiple = refl;
  wide_square = refl;
  wide_half = inverse_by 65537 2 32769 (lit< tt) refl;
}
