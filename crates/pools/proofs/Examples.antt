-- The worked cases, by computing.
--   found, found_right        the right verdict as a function that computes
--   answers, answers_right    the right answers of a session, likewise
--   worked_cases              all of them
-- Assumes nothing.
use Rattle.std.proofs.Common.{◌≡◌, ℕ, List, [], ◌∷◌, refl, subst}
use native.Mathlib.Decide.{ℕ_discrete, dec_lt, dec_le}
use Rattle.fields.specs.Arithmetic.{Arithmetic, Laws}
use Rattle.fields.specs.Bytes.{bytes, if_set, xtime, shifted, product, multiply}
use Rattle.fields.specs.Modulo.{wide}
use Rattle.fields.specs.ByteLaws.{byte_lawful}
use Rattle.fields.proofs.Worked.{examples}
use Rattle.fields.specs.ModuloLemmas.{wide_lawful, laws_modulo}
use Rattle.fields.specs.Powers.{chain, power254}
use Rattle.linear.proofs.Codes.{el, field_of}
use Rattle.linear.proofs.Substitution.{unit}
use Rattle.linear.proofs.Knowledge.{reduce, first, put, insert, run}
use Rattle.linear.proofs.Verdicts.{verdict}
use Rattle.sharing.specs.Cards.{Card}
use Rattle.pools.specs.Equations.{last_place}
use Rattle.sharing.specs.Multipliers.{coefficient}
use Rattle.pools.specs.Verdicts.{Verdict, contradictory, undecided, decided, Right}
use Rattle.pools.specs.Sessions.{Call, Answer, none_yet, RightRun}
use Rattle.pools.specs.Examples.{policy, dependent, two_cards, midpoint, session, session_answers, WorkedCases}
use Rattle.pools.proofs.OneVerdict.{card_row, key_row, right_fitting, fits_by, fits, all_fit, right_verdict}
use Rattle.pools.proofs.OneRun.{One, judged, met_below, counted, one_answer, one_run_is_right}

unfoldable pub found : (F : Arithmetic) → Laws F → List ℕ → List Card → Verdict
unfolding right_verdict right_fitting all_fit fits fits_by card_row key_row verdict run insert put first reduce unit el field_of coefficient last_place ℕ_discrete dec_lt
found F L ts held = (right_verdict F L ts 1 held).0

found_right : (F : Arithmetic) (L : Laws F) (ts : List ℕ) (held : List Card) (v : Verdict) → found F L ts held ≡ v → Right F ts 1 held v
unfolding found
found_right F L ts held v e = subst (Right F ts 1 held) e (right_verdict F L ts 1 held).1

unfoldable pub answers : (F : Arithmetic) → Laws F → List ℕ → List Call → List Answer
unfolding found One one_answer judged counted met_below one_run_is_right dec_le
answers F L ts calls = (one_run_is_right F L ts 1 none_yet calls).0

answers_right : (F : Arithmetic) (L : Laws F) (ts : List ℕ) (calls : List Call) (zs : List Answer) → answers F L ts calls ≡ zs → RightRun F ts 1 none_yet calls zs
unfolding answers
answers_right F L ts calls zs e = subst (RightRun F ts 1 none_yet calls) e (one_run_is_right F L ts 1 none_yet calls).1

pub worked_cases : WorkedCases
unfolding answers found wide_lawful laws_modulo byte_lawful chain power254 if_set xtime shifted product multiply
worked_cases = record {
  fields = examples;
  card_of_level_0 = refl;
  card_of_level_1 = refl;
  two_give_the_key = found_right wide wide_lawful policy _ (decided (5 ∷ [])) refl;
  three_give_the_key = found_right wide wide_lawful policy _ (decided (5 ∷ [])) refl;
  enough_and_open = answers_right wide wide_lawful policy dependent _ refl;
  false_value = found_right wide wide_lawful policy _ contradictory refl;
  too_few = answers_right wide wide_lawful policy two_cards _ refl;
  no_card = found_right wide wide_lawful policy [] undecided refl;
  threshold_of_one = found_right wide wide_lawful (1 ∷ []) _ (decided (9 ∷ [])) refl;
  byte_key = found_right bytes byte_lawful (2 ∷ []) _ (decided (3 ∷ [])) refl;
  few_give_the_key = answers_right wide wide_lawful (3 ∷ 4 ∷ []) midpoint _ refl;
  whole_session = answers_right wide wide_lawful policy session session_answers refl;
}
