-- What a run of a tray reports, from the parts that the tray's bytes are and how they end.
--   arithmetic_of      the arithmetic of a tray's field
--   TurnedAway         a card that the pool turned away, with the number of the reason
--   turned_card        the one that an entry of a report says
--   turned_by          those that a report lists
--   card_in            the card that a part is
--   told               what is told of a card that is refused, or is not
--   list_after         the card list after these cards are presented
--   turned_from        the cards that are turned away, each while those before it were presented
--   Stops              a stop is this one
--   Judges             counts and a verdict are those of a card list
--   Concludes          the counts and the verdict of a tray that ends, or the fault of one that does not
--   refuses            why the thresholds of a part make no policy
--   StopsEarly         what stops a run before the tray's cards
--   opening            the parts before the cards
--   Reports            a report is that of these parts with this ending
-- Assumes nothing.
use Rattle.std.specs.Prelude.{◌≡◌, ℕ, ◌+◌, ◌<◌, List, [], ◌∷◌, ◌++◌, map, length, Some, None, Ok, Err, Option, Result}
use Rattle.fields.specs.Arithmetic.{Arithmetic}
use Rattle.fields.specs.Bytes.{bytes}
use Rattle.fields.specs.Modulo.{wide}
use Rattle.sharing.specs.Cards.{Card, Every}
use Rattle.sharing.specs.Refusals.{number, refuses_policy}
use Rattle.pools.specs.Sessions.{CardList, none_yet, present, refuses_card, after}
use Rattle.pools.specs.Judging.{verdict_of}
use Rattle.pools.specs.Verdicts.{Right}
use Rattle.trays.specs.Cards.{level_in, id_in, values_in}
use Rattle.trays.specs.Layout.{Part, field, thresholds, words, card_count, card, written, Ending, ended, fault, Placed, placed}
use Rattle.trays.specs.Fields.{field_number}
use Rattle.trays.specs.declared.field.TrayField.{TrayField}
use Rattle.trays.specs.declared.field.TrayField.TheVariants.{Bytes, Wide}
use Rattle.reports.specs.declared.report.Judged.{Judged}
use Rattle.reports.specs.declared.report.Layer.{Layer}
use Rattle.reports.specs.declared.report.Layer.TheVariants as layer
use Rattle.reports.specs.declared.report.RefusedCard.{RefusedCard}
use Rattle.reports.specs.declared.report.Stop.{Stop}
use Rattle.reports.specs.declared.report.TrayReport.{TrayReport}

abbrev pub arithmetic_of : TrayField → Arithmetic
arithmetic_of Bytes = bytes
arithmetic_of Wide = wide

-- the ordinal counts the tray's cards from 1
pub record TurnedAway : Type 0 where
  pub ordinal : ℕ
  pub offset : ℕ
  pub reason : ℕ

abbrev pub turned_card : RefusedCard → TurnedAway
turned_card c = record { ordinal = c.ordinal; offset = c.offset; reason = number c.refusal }

abbrev pub turned_by : List RefusedCard → List TurnedAway
turned_by cards = map turned_card cards

abbrev pub card_in : ℕ → List ℕ → Card
card_in w bytes = record { level = level_in bytes; id = id_in bytes; values = values_in w bytes }

-- what is told of a card that is refused by a number, or is not
abbrev pub told : ℕ → ℕ → Option ℕ → List TurnedAway
told ordinal offset None = []
told ordinal offset (Some n) = record { ordinal = ordinal; offset = offset; reason = n } ∷ []

module _ (F : Arithmetic) (ts : List ℕ) (w : ℕ) where
  abbrev pub list_after : List Placed → CardList
  list_after cards = after F ts w none_yet (map (λ p. present (card_in w (written p.part))) cards)

  -- those among these cards, after the ones before them
  abbrev pub turned_from : List Placed → List Placed → List TurnedAway
  turned_from before [] = []
  turned_from before (p ∷ ps) =
      told (length before + 1) p.offset (refuses_card F ts w (list_after before).held (card_in w (written p.part))) ++ turned_from (before ++ p ∷ []) ps

  abbrev pub Judges : CardList → Judged → Type 0
  Judges s j = (j.held ≡ length s.held) × (j.turned ≡ s.turned) × Right F ts w s.held (verdict_of j.verdict)

abbrev pub Stops : ℕ → Layer → ℕ → Stop → Type 0
Stops n l at s = (number s.refusal ≡ n) × (s.layer ≡ l) × (s.offset ≡ at)

module _ (F : Arithmetic) (ts : List ℕ) (w : ℕ) where
  abbrev pub Concludes : List Placed → Ending → Result Judged Stop → Type 0
  Concludes cards ended (Ok j) = Judges F ts w (list_after F ts w cards) j
  Concludes cards ended (Err s) = ⊥
  Concludes cards (fault n at) (Ok j) = ⊥
  Concludes cards (fault n at) (Err s) = Stops n layer.Reader at s

abbrev pub refuses : Part → Option ℕ
refuses (field b) = None
refuses (thresholds ts) = refuses_policy ts
refuses (words w) = None
refuses (card_count n) = None
refuses (card _) = None

-- thresholds that make no policy, whatever follows them; or a fault where the card count was not read yet
pub data StopsEarly (parts : List Placed) (e : Ending) (s : Stop) : Type 0 where
  no_policy : (before : List Placed) (p : Placed) (more : List Placed) (n : ℕ) → parts ≡ before ++ p ∷ more → refuses p.part ≡ Some n
      → Stops n layer.Policy p.offset s → StopsEarly parts e s
  no_count : (n at : ℕ) → length parts < 4 → Every (λ p. refuses p.part ≡ None) parts → e ≡ fault n at
      → Stops n layer.Reader at s → StopsEarly parts e s

abbrev pub opening : ℕ → List ℕ → ℕ → ℕ → List Placed
opening b ts w n = placed 0 (field b ∷ thresholds ts ∷ words w ∷ card_count n ∷ [])

pub data Reports (parts : List Placed) (e : Ending) (r : TrayReport) : Type 0 where
  stopped_early : (s : Stop) → StopsEarly parts e s → r.header ≡ None → turned_by r.refused.items ≡ [] → r.conclusion ≡ Err s → Reports parts e r
  opened : (f : TrayField) (ts : List ℕ) (w n : ℕ) (cards : List Placed) → parts ≡ opening (field_number f) ts w n ++ cards → refuses_policy ts ≡ None
      → r.header ≡ Some (record { field = field_number f; levels = length ts; words = w; cards = n })
      → turned_by r.refused.items ≡ turned_from (arithmetic_of f) ts w [] cards
      → Concludes (arithmetic_of f) ts w cards e r.conclusion
      → Reports parts e r
