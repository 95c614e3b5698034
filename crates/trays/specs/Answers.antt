-- What a reader of a tray says, in the words of the layout.
--   Answer    a part, a part with an offset, or an ending; as_ending, as_answer, answer: what a fault, an item and a result say
--   due_part  what it has to say where this part is to come
--   due       what it has to say where these parts are to come, and then this ending
--   rest      the parts that are then still to come
--   From      at this stage, from an offset on, the bytes are these parts, with this ending
--   Reading   from where a reader stands, its bytes are these parts, with this ending
--   AtStart   a reader has all of these bytes to come
--   NextSaid  what a request says, and what it leaves to come
--   kept      the stage of a reader once it has kept the fault that it said
--   Said, SaidFrom   what a request says before that, of what may be to come, and of a reader that stands where this comes next
--   fault_at  the fault where a reader stands
--   ReaderReadsOneWay, RequestsInOrder   the theorems about it
-- Assumes nothing.
use Rattle.std.specs.Prelude.{◌≡◌, ℕ, suc, ◌+◌, List, [], ◌∷◌, drop, Some, None, Ok, Err, Option, Result}
use Rattle.sharing.specs.Refusals.{number}
use Rattle.sharing.specs.declared.refusal.Refusal.{Refusal}
use Rattle.trays.specs.Fields.{field_number}
use Rattle.trays.specs.declared.item.Item.{Item}
use Rattle.trays.specs.declared.item.Item.TheVariants as item
use Rattle.trays.specs.declared.item.Fault.{Fault}
use Rattle.trays.specs.declared.reader.Stage.{Stage}
use Rattle.trays.specs.declared.reader.Stage.TheVariants as stage
use Rattle.trays.specs.declared.reader.TrayReader.{TrayReader}
use Rattle.trays.specs.Layout.{Part, field, thresholds, words, card_count, card, Next, at_field, at_thresholds, at_words, at_count, at_cards, Ending, ended, fault, Placed, Reads, OneReading}

abbrev pub as_ending : Fault → Ending
as_ending f = fault (number f.refusal) f.offset

-- a part; a part and the offset of its bytes; or an ending
pub data Answer : Type 0 where
  gave : Part → Answer
  gave_at : Part → ℕ → Answer
  over : Ending → Answer

abbrev pub as_answer : Item → Answer
as_answer (item.Field f) = gave (field (field_number f))
as_answer (item.Thresholds bs o) = gave_at (thresholds bs.now) o
as_answer (item.Words n) = gave (words n)
as_answer (item.CardCount n) = gave (card_count n)
as_answer (item.Card bs o) = gave_at (card bs.now) o

abbrev pub answer : Result (Option Item) Fault → Answer
answer (Ok (Some i)) = as_answer i
answer (Ok None) = over ended
answer (Err f) = over (as_ending f)

-- the thresholds themselves stand after their count
abbrev pub due_part : Part → ℕ → Answer
due_part (field b) at = gave (field b)
due_part (thresholds ts) at = gave_at (thresholds ts) (at + 1)
due_part (words w) at = gave (words w)
due_part (card_count n) at = gave (card_count n)
due_part (card bytes) at = gave_at (card bytes) at

abbrev pub due : List Placed → Ending → Answer
due [] e = over e
due (p ∷ ps) e = due_part p.part p.offset

abbrev pub rest : List Placed → List Placed
rest [] = []
rest (p ∷ ps) = ps

abbrev pub From : Stage → ℕ → List ℕ → List Placed → Ending → Type 0
From stage.Field at bytes parts e = Reads at_field at (drop at bytes) parts e
From stage.Thresholds at bytes parts e = Reads at_thresholds at (drop at bytes) parts e
From stage.Words at bytes parts e = Reads at_words at (drop at bytes) parts e
From (stage.CardCount w) at bytes parts e = Reads (at_count w) at (drop at bytes) parts e
From (stage.Cards w n) at bytes parts e = Reads (at_cards w n) at (drop at bytes) parts e
From stage.End at bytes parts e = (parts ≡ []) × (e ≡ ended)
From (stage.Faulted f) at bytes parts e = (parts ≡ []) × (e ≡ as_ending f)

abbrev pub Reading : TrayReader → List Placed → Ending → Type 0
Reading t parts e = From t.stage t.position t.bytes.now parts e

-- a reader that has all of these bytes to come: its readings are those of a tray
abbrev pub AtStart : TrayReader → List ℕ → Type 0
AtStart t bytes =
    (parts : List Placed) (e : Ending) → (Reading t parts e → Reads at_field 0 bytes parts e) × (Reads at_field 0 bytes parts e → Reading t parts e)

-- a request: whatever was to come from the reader as it stood, its first is said and the others are still to come
abbrev pub NextSaid : TrayReader → Result (Option Item) Fault → TrayReader → Type 0
NextSaid before r after =
    (parts : List Placed) (e : Ending) → Reading before parts e → (answer r ≡ due parts e) × Reading after (rest parts) e

-- the stage of a reader once it has kept the fault that it said
abbrev pub kept : Result (Option Item) Fault → Stage → Stage
kept (Ok i) s = s
kept (Err f) s = stage.Faulted f

-- a request whose fault is still to be kept: the same, of whatever may be to come; and the reader's bytes stay as they are
pub record Said (ToCome : List Placed → Ending → Type 0) (before : TrayReader) (r : Result (Option Item) Fault) (after : TrayReader) : Type 0 where
  pub same : after.bytes ≡ before.bytes
  pub said : (parts : List Placed) (e : Ending) → ToCome parts e
      → (answer r ≡ due parts e) × From (kept r after.stage) after.position after.bytes.now (rest parts) e

-- the same, of a reader that stands where this comes next
abbrev pub SaidFrom : Next → TrayReader → Result (Option Item) Fault → TrayReader → Type 0
SaidFrom next before r after = Said (Reads next before.position (drop before.position before.bytes.now)) before r after

-- the fault where the reader stands
abbrev pub fault_at : TrayReader → Refusal → Fault
fault_at t k = record { refusal = k; offset = t.position }

-- wherever a reader stands there is one reading of what is to come, and no other
abbrev pub ReaderReadsOneWay : Type 0
ReaderReadsOneWay = (t : TrayReader) → OneReading (Reading t)

-- of one request after the other, each says what is due at its turn: the parts in their order, and then the ending for ever
abbrev pub RequestsInOrder : Type 0
RequestsInOrder =
    (readers : ℕ → TrayReader) (results : ℕ → Result (Option Item) Fault)
    → ((k : ℕ) → NextSaid (readers k) (results k) (readers (suc k)))
    → (parts : List Placed) (e : Ending) → Reading (readers 0) parts e
    → (k : ℕ) → answer (results k) ≡ due (drop k parts) e
