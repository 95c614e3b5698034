-- The worked examples, by computing.
--   worked_examples    all of them
-- Assumes nothing.
use Rattle.std.proofs.Common.{refl}
use Rattle.fields.specs.Bytes.{if_set, xtime, shifted, product, multiply}
use Rattle.sharing.specs.Examples.{WorkedExamples}
use Rattle.sharing.specs.Multipliers.{coefficient}

pub worked_examples : WorkedExamples
unfolding if_set xtime shifted product multiply coefficient
worked_examples = record {
  three = refl;
  two_of_bytes = refl;
  three_of_bytes = refl;
  third_power = refl;
  power_of_none = refl;
  two_factors = refl;
  two_factors_of_bytes = refl;
  no_factor = refl;
  longest = refl;
  value = refl;
  slope = refl;
  second = refl;
  places = refl;
  largest_threshold = refl;
  highest_order = refl;
  lowest_order = refl;
  card_of_level_0 = refl;
  card_of_level_1 = refl;
  card_of_bytes = refl;
  key = refl;
  multiplier_below = refl;
  multiplier_first = refl;
  multiplier_last = refl;
  no_threshold = refl;
  eight_thresholds = refl;
  nine_thresholds = refl;
  threshold_zero = refl;
  threshold_32 = refl;
  threshold_33 = refl;
  equal_thresholds = refl;
  falling_thresholds = refl;
  no_word = refl;
  sixteen_words = refl;
  seventeen_words = refl;
  fitting = refl;
  no_element = refl;
  too_few = refl;
  too_few_for_two_words = refl;
  issued = refl;
  unfit = refl;
  wrong_buffer = refl;
  id_zero = refl;
  id_at_size = refl;
  no_such_level = refl;
}
