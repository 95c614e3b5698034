-- Worked cases. Those of sessions begin with an empty pool; keys have one word.
--   card                                     a card with one value
--   policy                                   thresholds 2 and 3
--   dependent, two_cards, midpoint, session  calls on a new pool
--   session_answers                          the answers to the last of them
--   WorkedCases                              all of them together
-- Assumes nothing.
use Rattle.std.specs.Prelude.{◌≡◌, ℕ, true, false, List, [], ◌∷◌}
use Rattle.fields.specs.Bytes.{bytes}
use Rattle.fields.specs.Examples as fields
use Rattle.fields.specs.Modulo.{wide}
use Rattle.sharing.specs.Cards.{Card, values_of}
use Rattle.pools.specs.Verdicts.{contradictory, undecided, decided, Right}
use Rattle.pools.specs.Sessions.{Call, present, withdraw, judge, count, ask_held, ask_turned, Answer, done, refused_by, number, truth, verdict, none_yet, RightRun}

abbrev pub card : ℕ → ℕ → ℕ → Card
card l i v = record { level = l; id = i; values = v ∷ [] }

abbrev pub policy : List ℕ
policy = 2 ∷ 3 ∷ []

-- the cards of the coefficients 7, 4, 5 are presented, one is withdrawn, one is turned away
abbrev pub session : List Call
session =
    present (card 0 4 44) ∷ present (card 1 3 64) ∷ present (card 1 5 152) ∷ judge 1 ∷ count
    ∷ present (card 0 1 14) ∷ judge 1 ∷ withdraw 4 ∷ judge 1 ∷ present (card 1 1 14) ∷ ask_turned ∷ ask_held ∷ judge 2 ∷ []

abbrev pub session_answers : List Answer
session_answers =
    done ∷ done ∷ done ∷ verdict undecided ∷ truth true
    ∷ done ∷ verdict (decided (5 ∷ [])) ∷ done ∷ verdict (decided (5 ∷ [])) ∷ refused_by 12 ∷ number 1 ∷ number 3 ∷ refused_by 8 ∷ []

-- enough cards by their number, but one follows from the others
abbrev pub dependent : List Call
dependent = present (card 0 4 44) ∷ present (card 1 3 64) ∷ present (card 1 5 152) ∷ judge 1 ∷ count ∷ []

-- too few cards
abbrev pub two_cards : List Call
two_cards = present (card 0 1 14) ∷ present (card 1 3 64) ∷ judge 1 ∷ count ∷ []

-- too few cards by their number, for thresholds 3 and 4; but the slope at the midpoint is that of the chord
abbrev pub midpoint : List Call
midpoint = present (card 1 3 118) ∷ present (card 1 5 402) ∷ present (card 0 4 140) ∷ count ∷ judge 1 ∷ []

pub record WorkedCases : Type 0 where
  -- sums, products and inverses of both fields
  pub fields : fields.Examples
  -- the coefficients 7, 4, 5 issue these cards
  pub card_of_level_0 : values_of wide policy 1 (7 ∷ 4 ∷ 5 ∷ []) 0 1 ≡ 14 ∷ []
  pub card_of_level_1 : values_of wide policy 1 (7 ∷ 4 ∷ 5 ∷ []) 1 3 ≡ 64 ∷ []
  -- two cards of level 0 give the key, and so do three of mixed levels
  pub two_give_the_key : Right wide policy 1 (card 0 1 14 ∷ card 0 2 24 ∷ []) (decided (5 ∷ []))
  pub three_give_the_key : Right wide policy 1 (card 0 1 14 ∷ card 1 3 64 ∷ card 1 5 152 ∷ []) (decided (5 ∷ []))
  -- counting says yes, and the key is open
  pub enough_and_open : RightRun wide policy 1 none_yet dependent (done ∷ done ∷ done ∷ verdict undecided ∷ truth true ∷ [])
  -- the same with a false value
  pub false_value : Right wide policy 1 (card 0 4 45 ∷ card 1 3 64 ∷ card 1 5 152 ∷ []) contradictory
  pub too_few : RightRun wide policy 1 none_yet two_cards (done ∷ done ∷ verdict undecided ∷ truth false ∷ [])
  pub no_card : Right wide policy 1 [] undecided
  pub threshold_of_one : Right wide (1 ∷ []) 1 (card 0 1 9 ∷ []) (decided (9 ∷ []))
  pub byte_key : Right bytes (2 ∷ []) 1 (card 0 1 2 ∷ card 0 2 7 ∷ []) (decided (3 ∷ []))
  -- counting and judging are two answers: here counting says no, and the key is decided
  pub few_give_the_key : RightRun wide (3 ∷ 4 ∷ []) 1 none_yet midpoint (done ∷ done ∷ done ∷ truth false ∷ verdict (decided (2 ∷ [])) ∷ [])
  pub whole_session : RightRun wide policy 1 none_yet session session_answers
