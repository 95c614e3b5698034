-- One reading from where a reader stands, and requests one after the other.
--   reader_one_way   there is one reading of what is to come, and no other
--   in_order         each request says what is due at its turn
-- Assumes nothing.
use Rattle.std.proofs.Common.{◌≡◌, ℕ, zero, suc, List, [], ◌∷◌, drop, refl, subst}
use Rattle.trays.specs.declared.reader.Stage.{Stage}
use Rattle.trays.specs.declared.reader.Stage.TheVariants as stage
use Rattle.trays.specs.Layout.{at_field, at_thresholds, at_words, at_count, at_cards, ended, Placed, OneReading}
use Rattle.trays.specs.Answers.{as_ending, rest, From, Reading, ReaderReadsOneWay, RequestsInOrder}
use Rattle.trays.proofs.OneWay.{one_reading}

from_stage : (s : Stage) (at : ℕ) (bytes : List ℕ) → OneReading (From s at bytes)
from_stage stage.Field at bytes = one_reading at_field at (drop at bytes)
from_stage stage.Thresholds at bytes = one_reading at_thresholds at (drop at bytes)
from_stage stage.Words at bytes = one_reading at_words at (drop at bytes)
from_stage (stage.CardCount w) at bytes = one_reading (at_count w) at (drop at bytes)
from_stage (stage.Cards w n) at bytes = one_reading (at_cards w n) at (drop at bytes)
from_stage stage.End at bytes = ([], ended, (refl, refl), λ others f o. o)
from_stage (stage.Faulted k) at bytes = ([], as_ending k, (refl, refl), λ others f o. o)

pub reader_one_way : ReaderReadsOneWay
reader_one_way t = from_stage t.stage t.position t.bytes.now

one_fewer : (k : ℕ) (parts : List Placed) → rest (drop k parts) ≡ drop (suc k) parts
one_fewer zero [] = refl
one_fewer zero (p ∷ ps) = refl
one_fewer (suc k) [] = refl
one_fewer (suc k) (p ∷ ps) = one_fewer k ps

pub in_order : RequestsInOrder
in_order readers results said parts e r k = (said k (drop k parts) e (at k)).0
  where
    at : (k : ℕ) → Reading (readers k) (drop k parts) e
    at zero = r
    at (suc k) = subst (λ ps. Reading (readers (suc k)) ps e) (one_fewer k parts) (said k (drop k parts) e (at k)).1
