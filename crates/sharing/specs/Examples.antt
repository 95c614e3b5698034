-- Worked examples: what the definitions of cards and of refusals give.
--   policy            thresholds 2 and 3
--   polynomial        the polynomial 7 + 4 x + 5 x^2, by its coefficients
--   two_words         two of them for a key of two words, 5 and 3
--   WorkedExamples    all of them
-- Assumes nothing.
use Rattle.std.specs.Prelude.{◌≡◌, ℕ, ◌+◌, List, [], ◌∷◌, replicate, Some, None, slice_index}
use Rattle.fields.specs.Bytes.{bytes}
use Rattle.fields.specs.Modulo.{wide}
use Rattle.sharing.specs.Cards.{whole, power, falling, derivative, row, top, order, values_of, key_of}
use Rattle.sharing.specs.Multipliers.{coefficient}
use Rattle.sharing.specs.Refusals.{refuses_policy, refuses_words, refuses_loading, refuses_issue}

abbrev pub policy : List ℕ
policy = 2 ∷ 3 ∷ []

abbrev pub polynomial : List ℕ
polynomial = 7 ∷ 4 ∷ 5 ∷ []

abbrev pub two_words : List ℕ
two_words = 7 ∷ 4 ∷ 5 ∷ 1 ∷ 2 ∷ 3 ∷ []

pub record WorkedExamples : Type 0 where
  -- a whole number in a field: in the byte field 1 + 1 is 0
  pub three : whole wide 3 ≡ 3
  pub two_of_bytes : whole bytes 2 ≡ 0
  pub three_of_bytes : whole bytes 3 ≡ 1
  pub third_power : power wide 5 3 ≡ 125
  pub power_of_none : power wide 0 0 ≡ 1
  -- 5 × 4 is 20, and as elements of the byte field 1 × 0; the empty product is 1; the longest is 31 × 30 × … × 1
  pub two_factors : falling wide 5 2 ≡ 20
  pub two_factors_of_bytes : falling bytes 5 2 ≡ 0
  pub no_factor : falling wide 5 0 ≡ 1
  pub longest : falling wide 31 31 ≡ 64614
  -- 7 + 4 × 4 + 5 × 16; 4 + 2 × 5 × 4; 2 × 5
  pub value : derivative wide 3 0 4 (λ i. slice_index polynomial i) ≡ 103
  pub slope : derivative wide 3 1 4 (λ i. slice_index polynomial i) ≡ 44
  pub second : derivative wide 3 2 4 (λ i. slice_index polynomial i) ≡ 10
  pub places : row 3 (λ k. 10 + k) ≡ 10 ∷ 11 ∷ 12 ∷ []
  pub largest_threshold : top (3 ∷ 10 ∷ 20 ∷ []) ≡ 20
  pub highest_order : order (3 ∷ 10 ∷ 20 ∷ []) 0 ≡ 17
  pub lowest_order : order (3 ∷ 10 ∷ 20 ∷ []) 2 ≡ 0
  -- a card of level 0 carries the slope, one of level 1 the value; each word has its own
  pub card_of_level_0 : values_of wide policy 2 two_words 0 4 ≡ 44 ∷ 26 ∷ []
  pub card_of_level_1 : values_of wide policy 2 two_words 1 4 ≡ 103 ∷ 57 ∷ []
  pub card_of_bytes : values_of bytes (2 ∷ []) 1 (1 ∷ 3 ∷ []) 0 2 ≡ 7 ∷ []
  pub key : key_of policy 2 two_words ≡ 5 ∷ 3 ∷ []
  -- the slope at 4 is 0 × 7 + 1 × 4 + 8 × 5
  pub multiplier_below : coefficient wide 1 4 0 ≡ 0
  pub multiplier_first : coefficient wide 1 4 1 ≡ 1
  pub multiplier_last : coefficient wide 1 4 2 ≡ 8
  pub no_threshold : refuses_policy [] ≡ Some 3
  pub eight_thresholds : refuses_policy (1 ∷ 2 ∷ 3 ∷ 4 ∷ 5 ∷ 6 ∷ 7 ∷ 8 ∷ []) ≡ None
  pub nine_thresholds : refuses_policy (replicate 9 0) ≡ Some 3
  pub threshold_zero : refuses_policy (0 ∷ 1 ∷ []) ≡ Some 4
  pub threshold_32 : refuses_policy (32 ∷ []) ≡ None
  pub threshold_33 : refuses_policy (33 ∷ []) ≡ Some 4
  pub equal_thresholds : refuses_policy (2 ∷ 2 ∷ []) ≡ Some 4
  pub falling_thresholds : refuses_policy (1 ∷ 3 ∷ 2 ∷ []) ≡ Some 4
  pub no_word : refuses_words 0 ≡ Some 5
  pub sixteen_words : refuses_words 16 ≡ None
  pub seventeen_words : refuses_words 17 ≡ Some 5
  -- the count is tried first, then each number
  pub fitting : refuses_loading wide policy 1 (7 ∷ 4 ∷ 65536 ∷ []) ≡ None
  pub no_element : refuses_loading wide policy 1 (7 ∷ 65537 ∷ 5 ∷ []) ≡ Some 7
  pub too_few : refuses_loading wide policy 1 (7 ∷ 65537 ∷ []) ≡ Some 6
  pub too_few_for_two_words : refuses_loading wide policy 2 polynomial ≡ Some 6
  -- level, id and length of the value buffer: all right, then one condition after the other
  pub issued : refuses_issue wide policy 1 polynomial 1 65536 1 ≡ None
  pub unfit : refuses_issue bytes policy 1 (7 ∷ 4 ∷ 256 ∷ []) 9 0 9 ≡ Some 7
  pub wrong_buffer : refuses_issue wide policy 1 polynomial 2 0 2 ≡ Some 8
  pub id_zero : refuses_issue wide policy 1 polynomial 2 0 1 ≡ Some 9
  pub id_at_size : refuses_issue wide policy 1 polynomial 2 65537 1 ≡ Some 9
  pub no_such_level : refuses_issue wide policy 1 polynomial 2 1 1 ≡ Some 10
