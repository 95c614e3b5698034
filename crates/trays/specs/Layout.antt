-- The layout of a tray, as a relation between its bytes and the parts that they are.
--   Part       what a part of a tray says
--   written    the bytes of a part
--   card_size  how many bytes a card of so many words has
--   Next       what comes next in a tray that is sound so far
--   Follows    a part that may stand where something is to come, and what comes after it
--   Wrong      why no part that may stand there does, by its number
--   Ending     the end, or a fault by its number with its offset
--   Placed     a part with its offset
--   Reads      bytes, from a place in a tray on, are these parts and then end, or then have a fault
--   OneReading one list of parts with one ending, and no other
--   Tray, AllSized, Sound   what a whole tray says; cards of one length; a tray that keeps the format
--   parts_of, placed        the parts of a tray, in order; parts one after the other, from an offset on
--   TrayReadsOneWay, TrayReadsBack, WholeTrayIsSound   the theorems about it
-- Assumes nothing.
use Rattle.std.specs.Prelude.{◌≡◌, ℕ, suc, ◌+◌, ◌*◌, ◌<◌, ◌≤◌, List, [], ◌∷◌, ◌++◌, map, length}
use Rattle.std.specs.List.{flat_map}

pub data Part : Type 0 where
  field : ℕ → Part
  thresholds : List ℕ → Part
  words : ℕ → Part
  card_count : ℕ → Part
  card : List ℕ → Part

-- a threshold section begins with its count; every other part is its own bytes
abbrev pub written : Part → List ℕ
written (field b) = b ∷ []
written (thresholds ts) = length ts ∷ ts
written (words w) = w ∷ []
written (card_count n) = n ∷ []
written (card bytes) = bytes

-- of the last, how many words a card has and how many cards are still to come
pub data Next : Type 0 where
  at_field at_thresholds at_words : Next
  at_count : ℕ → Next
  at_cards : ℕ → ℕ → Next

-- a level byte, four id bytes, and four bytes for each value
abbrev pub card_size : ℕ → ℕ
card_size w = 5 + 4 * w

pub data Follows : Next → Part → Next → Type 0 where
  a_field : {b : ℕ} → 1 ≤ b → b ≤ 2 → Follows at_field (field b) at_thresholds
  some_thresholds : {ts : List ℕ} → Follows at_thresholds (thresholds ts) at_words
  some_words : {w : ℕ} → 1 ≤ w → w ≤ 16 → Follows at_words (words w) (at_count w)
  a_count : {w n : ℕ} → Follows (at_count w) (card_count n) (at_cards w n)
  a_card : {w n : ℕ} {bytes : List ℕ} → length bytes ≡ card_size w → Follows (at_cards w (suc n)) (card bytes) (at_cards w n)

-- what comes next, the bytes from there on, and the number of what is wrong with them
pub data Wrong : Next → List ℕ → ℕ → Type 0 where
  -- the bytes are the beginning of a part that may stand there, and end before it does
  cut_short : {next after : Next} {p : Part} {bytes : List ℕ} (missing : List ℕ)
      → Follows next p after → written p ≡ bytes ++ missing → 0 < length missing → Wrong next bytes 1
  unknown_field : {b : ℕ} {rest : List ℕ} → (1 ≤ b → b ≤ 2 → ⊥) → Wrong at_field (b ∷ rest) 2
  wrong_words : {w : ℕ} {rest : List ℕ} → (1 ≤ w → w ≤ 16 → ⊥) → Wrong at_words (w ∷ rest) 5
  more_bytes : {w b : ℕ} {rest : List ℕ} → Wrong (at_cards w 0) (b ∷ rest) 15

-- the end, or a fault by its number, with its offset in the tray
pub data Ending : Type 0 where
  ended : Ending
  fault : ℕ → ℕ → Ending

-- a part with its offset in the tray
pub record Placed : Type 0 where
  pub part : Part
  pub offset : ℕ

-- what comes next, the offset, the bytes from there on, the parts that they are, and how they end
pub data Reads : Next → ℕ → List ℕ → List Placed → Ending → Type 0 where
  done : {w at : ℕ} → Reads (at_cards w 0) at [] [] ended
  broken : {next : Next} {at n : ℕ} {bytes : List ℕ} → Wrong next bytes n → Reads next at bytes [] (fault n at)
  then : {next after : Next} {at : ℕ} {p : Part} {bytes rest : List ℕ} {parts : List Placed} {e : Ending}
      → Follows next p after → bytes ≡ written p ++ rest → Reads after (at + length (written p)) rest parts e
      → Reads next at bytes (record { part = p; offset = at } ∷ parts) e

-- this holds of one list of parts with one ending, and of no other
abbrev pub OneReading : (List Placed → Ending → Type 0) → Type 0
OneReading R =
    (parts : List Placed) × (e : Ending) × R parts e
    × ((others : List Placed) (f : Ending) → R others f → (others ≡ parts) × (f ≡ e))

-- every list of bytes is one list of parts with one ending, and no other
abbrev pub TrayReadsOneWay : Type 0
TrayReadsOneWay = (bytes : List ℕ) → OneReading (Reads at_field 0 bytes)

-- what a whole tray says
pub record Tray : Type 0 where
  pub code : ℕ
  pub levels : List ℕ
  pub values : ℕ
  pub cards : List (List ℕ)

abbrev pub AllSized : ℕ → List (List ℕ) → Type 0
AllSized size [] = Unit {0}
AllSized size (c ∷ cs) = (length c ≡ size) × AllSized size cs

pub record Sound (t : Tray) : Type 0 where
  pub code_low : 1 ≤ t.code
  pub code_high : t.code ≤ 2
  pub values_low : 1 ≤ t.values
  pub values_high : t.values ≤ 16
  pub sized : AllSized (card_size t.values) t.cards

-- its parts, in order
abbrev pub parts_of : Tray → List Part
parts_of t =
    field t.code ∷ thresholds t.levels ∷ words t.values ∷ card_count (length t.cards) ∷ map card t.cards

-- parts one after the other, the first at an offset
abbrev pub placed : ℕ → List Part → List Placed
placed at [] = []
placed at (p ∷ ps) = record { part = p; offset = at } ∷ placed (at + length (written p)) ps

-- the bytes of the parts of a sound tray read as those parts and end, and as nothing else
abbrev pub TrayReadsBack : Type 0
TrayReadsBack =
    (t : Tray) → Sound t
    → Reads at_field 0 (flat_map written (parts_of t)) (placed 0 (parts_of t)) ended
    × ((parts : List Placed) (e : Ending) → Reads at_field 0 (flat_map written (parts_of t)) parts e → (parts ≡ placed 0 (parts_of t)) × (e ≡ ended))

-- bytes that read to the end are the bytes of the parts of a sound tray
abbrev pub WholeTrayIsSound : Type 0
WholeTrayIsSound =
    (bytes : List ℕ) (parts : List Placed) → Reads at_field 0 bytes parts ended
    → (t : Tray) × Sound t × (bytes ≡ flat_map written (parts_of t)) × (parts ≡ placed 0 (parts_of t))
