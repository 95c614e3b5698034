-- When a call is refused, and by which number.
--   number             the number that a refusal is known by
--   sentence           the sentence that tells it to a person
--   refused            the number of the refusal that a call answered, if it answered one
--   first              of conditions in their order, the number of the first that holds
--   somewhere          a test that some number below another meets
--   misplaced          a threshold is out of range or does not rise
--   disordered         some threshold is misplaced
--   refuses_policy     why thresholds make no policy
--   refuses_words      why a number of words is not taken
--   on_coefficients    the conditions on a dealing's coefficients
--   refuses_loading    why a dealing does not take coefficients
--   refuses_issue      why a card is not issued
-- Assumes nothing.
use Rattle.std.specs.Prelude.{ℕ, zero, suc, ◌-◌, ◌*◌, Bool, false, cond, not, ◌&&◌, ◌||◌, List, [], ◌∷◌, ◌++◌, length, Some, None, Ok, Err, codes, Option, Result, ◌==◌, nat_le, nat_lt, slice_index}
use Rattle.std.specs.List.{list_any}
use Rattle.fields.specs.Arithmetic.{Arithmetic}
use Rattle.sharing.specs.Cards.{top}
use Rattle.sharing.specs.declared.refusal.Refusal.{Refusal}
use Rattle.sharing.specs.declared.refusal.Refusal.TheVariants as refusal

abbrev pub number : Refusal → ℕ
number refusal.TrayEndsEarly = 1
number refusal.UnknownField = 2
number refusal.WrongLevelCount = 3
number refusal.WrongThreshold = 4
number refusal.WrongWordCount = 5
number refusal.WrongCoefficientCount = 6
number refusal.CoefficientOutsideField = 7
number refusal.WrongBufferLength = 8
number refusal.WrongId = 9
number refusal.NoSuchLevel = 10
number refusal.ValueOutsideField = 11
number refusal.IdAlreadyHeld = 12
number refusal.PoolFull = 13
number refusal.IdNotHeld = 14
number refusal.TrailingByte = 15

-- the sentence that tells a refusal to a person
abbrev pub sentence : Refusal → List ℕ
sentence refusal.TrayEndsEarly = codes "the tray ends before the part being read is complete"
sentence refusal.UnknownField = codes "the tray's field byte is neither 1 nor 2"
sentence refusal.WrongLevelCount = codes "a policy has 1 to 8 thresholds"
sentence refusal.WrongThreshold = codes "a threshold is 0, above 32, or not above the one before"
sentence refusal.WrongWordCount = codes "the word count is 0 or above 16"
sentence refusal.WrongCoefficientCount = codes "the coefficients are not as many as words times the last threshold"
sentence refusal.CoefficientOutsideField = codes "a coefficient is not below the field's size"
sentence refusal.WrongBufferLength = codes "the buffer has not one place for each word"
sentence refusal.WrongId = codes "the id is 0 or not below the field's size"
sentence refusal.NoSuchLevel = codes "the policy has no such level"
sentence refusal.ValueOutsideField = codes "a value on the card is not below the field's size"
sentence refusal.IdAlreadyHeld = codes "a card with this id is already held"
sentence refusal.PoolFull = codes "the pool holds 64 cards"
sentence refusal.IdNotHeld = codes "no card with this id is held"
sentence refusal.TrailingByte = codes "a byte follows the tray's last card"

abbrev pub refused : {A : Type 0} → Result A Refusal → Option ℕ
refused (Ok a) = None
refused (Err e) = Some (number e)

abbrev pub first : List (Bool × ℕ) → Option ℕ
first [] = None
first (c ∷ cs) = cond c.0 (Some c.1) (first cs)

-- some number below n meets the test
abbrev pub somewhere : ℕ → (ℕ → Bool) → Bool
somewhere zero p = false
somewhere (suc n) p = somewhere n p || p n

-- the threshold of a level is 0, above 32, or not above the one before it
abbrev pub misplaced : List ℕ → ℕ → Bool
misplaced ts level =
    (slice_index ts level == 0) || (nat_lt 32 (slice_index ts level) || (nat_lt 0 level && nat_le (slice_index ts level) (slice_index ts (level - 1))))

-- some threshold is misplaced
abbrev pub disordered : List ℕ → Bool
disordered ts = somewhere (length ts) (misplaced ts)

-- the conditions on the thresholds of a policy, in their order, with the number of each
abbrev pub refuses_policy : List ℕ → Option ℕ
refuses_policy ts = first ((length ts == 0 || nat_lt 8 (length ts), 3) ∷ (disordered ts, 4) ∷ [])

abbrev pub refuses_words : ℕ → Option ℕ
refuses_words w = first ((w == 0 || nat_lt 16 w, 5) ∷ [])

module _ (F : Arithmetic) (ts : List ℕ) (w : ℕ) where
  -- the conditions on coefficients: another number of them than w × t, or one that is no element
  abbrev pub on_coefficients : List ℕ → List (Bool × ℕ)
  on_coefficients x = (not (length x == w * top ts), 6) ∷ (list_any (λ a. nat_le F.size a) x, 7) ∷ []

  abbrev pub refuses_loading : List ℕ → Option ℕ
  refuses_loading x = first (on_coefficients x)

  -- the coefficients are tried again, then the length of the value buffer, the id and the level
  abbrev pub refuses_issue : List ℕ → ℕ → ℕ → ℕ → Option ℕ
  refuses_issue x level id n =
      first (on_coefficients x ++ (not (n == w), 8) ∷ (id == 0 || nat_le F.size id, 9) ∷ (nat_le (length ts) level, 10) ∷ [])
