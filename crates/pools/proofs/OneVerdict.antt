-- Of any held cards one verdict is right, and no other: over every field, for all thresholds, words and cards. Here the
-- elimination is a function of the theory, so that worked cases can be computed.
--   card_row, key_row                the row that a card is, and the form that reads the key's word
--   Holds                            values satisfy the rows of these cards
--   solved_holds, holds_solved       numbers solve the cards just if their codes satisfy the rows
--   verdict_of                       a verdict of the theory, in the words of the statement
--   solved                           values that satisfy the rows, as a solution
--   means_right                      what is claimed of the rows is the right verdict
--   right_fitting                    the right verdict on cards with w elements each
--   Never, fits_by, fits, all_fit    each card has w elements, or nothing agrees with all of them
--   right_verdict                    the right verdict, with the proof
--   one_verdict_is_right             and no other is right
-- Assumes nothing.
use Rattle.std.proofs.Common.{◌≡◌, ℕ, ◌<◌, Bool, true, false, ◌⊎◌, List, [], ◌∷◌, map, length, get_or, sym, refl, ap, ◌∙◌, inl, inr, arith}
use native.Mathlib.Decide.{ℕ_discrete, dec_lt}
use Rattle.fields.specs.Arithmetic.{Arithmetic, Laws}
use Rattle.linear.specs.Solutions.{Values}
use Rattle.linear.proofs.Fields.{dot}
use Rattle.linear.proofs.Codes.{Code, el, el_number, el_same, field_of}
use Rattle.linear.proofs.Reading.{read, numbers, read_numbers, el_dot, sum_below}
use Rattle.linear.proofs.Systems.{Row, Assignment, AllHold, Means}
use Rattle.linear.proofs.Systems as systems
use Rattle.linear.proofs.Verdicts as theory
use Rattle.sharing.specs.Cards.{Card, row, top, order, Agrees, Every}
use Rattle.pools.specs.Equations.{last_place}
use Rattle.sharing.specs.Multipliers.{coefficient}
use Rattle.pools.specs.Stands.{OneVerdictIsRight}
use Rattle.pools.specs.Verdicts.{Verdict, contradictory, undecided, decided, Right}
use Rattle.pools.proofs.Agreement.{Fits, assigned, CardSolved, Solved, agrees_long, agrees_solved}
use Rattle.pools.proofs.Holding.{outside, all_below, outside_never}
use Rattle.pools.proofs.Verdicts.{right_unique, right_contradictory, never_solved, every_value, one_value, no_words}

module _ (F : Arithmetic) (L : Laws F) (ts : List ℕ) (w : ℕ) where
  unfoldable pub card_row : Card → Row (Code F)
  card_row c = record { coef = λ i. el F L (coefficient F (order ts c.level) c.id i); rhs = λ j. el F L (get_or c.values j 0) }

  -- the form that reads the key's word
  unfoldable pub key_row : ℕ → Code F
  key_row k = el F L (last_place (top ts) k)

  abbrev pub Holds : List Card → Assignment (Code F) → Type 0
  Holds held = AllHold (field_of F L) (top ts) w (map card_row held)

  solved_holds : (x : Values) (held : List Card) → Every (CardSolved F L ts w x) held → Holds held (read F L x)
  unfolding card_row
  solved_holds x [] s = tt
  solved_holds x (c ∷ held) s =
      (solved_holds x held s.1, λ j l. sym (el_dot F L (top ts) (coefficient F (order ts c.level) c.id) (x j)) ∙ ap (el F L) (s.0 j l))

  holds_solved : (x : Values) (held : List Card) → Every (Fits F w) held → Holds held (read F L x) → Every (CardSolved F L ts w x) held
  unfolding card_row
  holds_solved x [] i h = tt
  holds_solved x (c ∷ held) i h = (
    (λ j l. el_same F L _ _ (sum_below F L _ _) (i.0.below j l) (el_dot F L (top ts) (coefficient F (order ts c.level) c.id) (x j) ∙ h.1 j l)),
    holds_solved x held i.1 h.0,
  )

  -- a verdict of the theory, in the words of the statement
  abbrev pub verdict_of : systems.Verdict (Code F) → Verdict
  verdict_of systems.contradictory = contradictory
  verdict_of systems.undecided = undecided
  verdict_of (systems.decided v) = decided (row w (λ j. (v j).0))

  module _ (held : List Card) (fit : Every (Fits F w) held) where
    solved : (y : Assignment (Code F)) → Holds held y → Solved F L ts w held (numbers F L y)
    solved y h = record {
      elements = λ j k l m. (y j k).1;
      cards = holds_solved (numbers F L y) held fit (rw (read_numbers F L y) h);
    }

    pub means_right : 0 < w → (v : systems.Verdict (Code F)) → Means (field_of F L) (top ts) w (Holds held) key_row v → Right F ts w held (verdict_of v)
    unfolding key_row
    means_right l systems.contradictory never = never_solved F L ts w held (λ x s. never (read F L x) (solved_holds x held s.cards))
    means_right l systems.undecided every = every_value F L ts w held fit (λ v below.
        let (y, h, g) = every (λ j. el F L (v j)) in (
          numbers F L y,
          solved y h,
          λ j m. el_same F L _ _ (sum_below F L _ _) (below j m)
              (el_dot F L (top ts) (last_place (top ts)) (numbers F L y j) ∙ ap (λ (z : Assignment (Code F)). dot (field_of F L) (top ts) key_row (z j)) (read_numbers F L y) ∙ g j m),
        ))
    means_right l (systems.decided v) one = one_value F L ts w held fit l (λ j. (v j).0)
        (let (y, h) = one.0 in (numbers F L y, solved y h))
        (λ x s j m.
        sym (el_number F L _ (sum_below F L _ _))
        ∙ ap (λ (c : Code F). c.0) (el_dot F L (top ts) (last_place (top ts)) (x j) ∙ one.1 (read F L x) (solved_holds x held s.cards) j m))

    unfoldable pub right_fitting : (v : Verdict) × Right F ts w held v
    right_fitting =
        elim (dec_lt 0 w) [
          | yes l ↦ let (v, m) = theory.verdict (field_of F L) (top ts) w (map card_row held) key_row in (verdict_of v, means_right l v m)
          | no d ↦ (undecided, no_words F L ts w held fit (omega arith))
        ]

  -- nothing agrees with all of these cards
  abbrev pub Never : List Card → Type 0
  Never held = (x : List ℕ) → Every (Agrees F ts w x) held → ⊥

  unfoldable pub fits_by : (c : Card) → length c.values ≡ w → (b : Bool) → outside F w c.values ≡ b → Fits F w c ⊎ Never (c ∷ [])
  fits_by c e true h = inr (λ x a. outside_never F w L ts (assigned (top ts) x) c e h (agrees_solved F L ts w x c a.0))
  fits_by c e false h = inl (record { long = e; below = λ k l. all_below F w c.values h k (omega arith) })

  unfoldable pub fits : (c : Card) → Fits F w c ⊎ Never (c ∷ [])
  fits c = elim (ℕ_discrete (length c.values) w) [ no d ↦ inr (λ x a. d (agrees_long F L ts w x c a.0)) | yes e ↦ fits_by c e (outside F w c.values) refl ]

  unfoldable pub all_fit : (held : List Card) → Every (Fits F w) held ⊎ Never held
  all_fit [] = inl tt
  all_fit (c ∷ held) =
      elim (fits c) [
        | inr never ↦ inr (λ x a. never x (a.0, tt))
        | inl one ↦ elim (all_fit held) [ inr never ↦ inr (λ x a. never x a.1) | inl rest ↦ inl (one, rest) ]
      ]

  unfoldable pub right_verdict : (held : List Card) → (v : Verdict) × Right F ts w held v
  right_verdict held =
      elim (all_fit held) [
        | inl fit ↦ right_fitting held fit
        | inr never ↦ (contradictory, right_contradictory F L ts w held (λ x a. never x a.agrees))
      ]

pub one_verdict_is_right : OneVerdictIsRight
one_verdict_is_right F L ts w held = let (v, r) = right_verdict F L ts w held in (v, r, λ u s. right_unique F ts w held u v s r)
