-- Reading a tray up to its cards.
--   at_place             a part at an offset
--   nothing              where an option is no item it is none
--   no_fault             an item is no fault
--   same_reading         from where a reader stands there is one reading
--   not_ended, part_to_come    a part is to come where one has to
--   at_one               what holds of every reading of what is to come holds of the one
--   part_said            an item is the part that is to come
--   ReadSoFar, ReadThen  these parts are read, and what comes next stands at an offset; and one part more
--   begun                none is read
--   left_over            the parts begin with those that are read, and the others are to come
--   still_to_come, to_come    what comes next is to come; so a part is, where one has to
--   part_read            a part that may stand there is read
--   early, misfit        a fault before the card count stops the run; so do thresholds that make no policy
--   is_field, is_thresholds, is_words, is_count               what an item is where this comes next
--   field_there, thresholds_there, words_there, count_there   that it is so of what a request gave
--   field_read, thresholds_read, words_read, count_read       the part that it is, is read
-- Assumes nothing.
use Rattle.std.proofs.Common.{◌≡◌, ℕ, ◌+◌, ◌<◌, ◌≤◌, List, [], ◌∷◌, ◌++◌, length, Some, None, Ok, Err, Option, sym, refl, ap, ◌∙◌, Bor}
use Rattle.std.proofs.lemmas.List.{append_assoc, append-nil}
use Rattle.reports.proofs.Said.{no_part, fault_said}
use Rattle.sharing.specs.Cards.{Every}
use Rattle.sharing.specs.Refusals.{number, refuses_policy}
use Rattle.trays.specs.Answers.{over, as_answer, due_part, due, rest, Reading, NextSaid}
use Rattle.trays.specs.Layout.{Part, field, thresholds, words, card_count, written, at_field, at_thresholds, at_words, at_count, at_cards, Next, Follows, a_field, some_thresholds, some_words, a_count, Ending, ended, fault, Placed, Reads, done, broken, then}
use Rattle.reports.specs.Runs.{StopsEarly, no_policy, no_count, Stops, refuses}
use Rattle.reports.specs.Steps.{Whole, PartToCome}
use Rattle.trays.specs.Fields.{field_number}
use Rattle.trays.specs.declared.field.TrayField.{TrayField}
use Rattle.trays.specs.declared.item.Fault.{Fault}
use Rattle.trays.specs.declared.item.Item.{Item}
use Rattle.trays.specs.declared.item.Item.TheVariants as item
use Rattle.trays.specs.declared.reader.TrayReader.{TrayReader}
use Rattle.reports.specs.declared.report.Layer.TheVariants as layer
use Rattle.reports.specs.declared.report.Stop.{Stop}
use Rattle.trays.proofs.Orders.{reader_one_way}

abbrev pub at_place : Part → ℕ → Placed
at_place p at = record { part = p; offset = at }

-- where an option is no item it is none
pub nothing : (o : Option Item) → ((i : Item) → o ≡ Some i → ⊥) → o ≡ None
nothing None h = refl
nothing (Some i) h = absurd (h i refl)

-- an item is no fault
pub no_fault : (i : Item) (n at : ℕ) → as_answer i ≡ over (fault n at) → ⊥
no_fault (item.Field b) n at h = cc
no_fault (item.Thresholds x o) n at h = cc
no_fault (item.Words w) n at h = cc
no_fault (item.CardCount m) n at h = cc
no_fault (item.Card x o) n at h = cc

-- from where a reader stands there is one reading
pub same_reading : (t : TrayReader) (ps qs : List Placed) (e f : Ending) → Reading t ps e → Reading t qs f → (ps ≡ qs) × (e ≡ f)
same_reading t ps qs e f r s =
    let all = reader_one_way t in
    let one = all.3 ps e r in
    let two = all.3 qs f s in
    (one.0 ∙ sym two.0, one.1 ∙ sym two.1)

-- a part is to come where one has to
not_ended : {next : Next} {at : ℕ} {bytes : List ℕ} {parts : List Placed} {e : Ending} → ((w : ℕ) → next ≡ at_cards w 0 → ⊥) → Reads next at bytes parts e → due parts e ≡ over ended → ⊥
not_ended last (done {w}) h = last w refl
not_ended last (broken w) h = cc
not_ended last (then {at} {p} f k r) h = no_part p at ended (sym h)

-- so it is to come from a reader that stands there
pub part_to_come : (t : TrayReader) {next : Next} {at : ℕ} {bytes : List ℕ} {qs : List Placed} {f : Ending} → ((w : ℕ) → next ≡ at_cards w 0 → ⊥) → Reading t qs f → Reads next at bytes qs f → PartToCome t
part_to_come t {qs} {f} last s reads ps e r h =
    let same = same_reading t ps qs e f r s in
    not_ended last reads (rw (same.0, same.1) at h)

-- what holds of every reading of what is to come holds of the one
pub at_one : {P : List Placed → Ending → Type 0} (t : TrayReader) → ((parts : List Placed) (e : Ending) → Reading t parts e → P parts e) → (parts : List Placed) × (e : Ending) × P parts e
at_one t h = let (parts, e, r, one) = reader_one_way t in (parts, e, h parts e r)

-- an item is the part that is to come
part_said : {next : Next} {at : ℕ} {bytes : List ℕ} {parts : List Placed} {e : Ending} → Reads next at bytes parts e → ((w : ℕ) → next ≡ at_cards w 0 → ⊥) → (i : Item) → as_answer i ≡ due parts e
    → (p : Part) × (after : Next) × Follows next p after × (as_answer i ≡ due_part p at) × (parts ≡ at_place p at ∷ rest parts)
    × ((bytes : List ℕ) × Reads after (at + length (written p)) bytes (rest parts) e)
part_said (done {w}) last i h = absurd (last w refl)
part_said (broken {at} {n} w) last i h = absurd (no_fault i n at h)
part_said (then {after} {p} {rest = more} f k r) last i h = (p, after, f, h, refl, (more, r))

-- of what the first reader had to come these parts are read, and what comes next stands at an offset of the second
pub record ReadSoFar (t₀ t : TrayReader) (known : List Placed) (next : Next) (at : ℕ) : Type 0 where
  pub parts : List Placed
  pub ending : Ending
  pub whole : Reading t₀ parts ending
  pub others : List Placed
  pub split : parts ≡ known ++ others
  pub left : Reading t others ending
  pub bytes : List ℕ
  pub reads : Reads next at bytes others ending

-- one part more is read, which stands at an offset
abbrev pub ReadThen : (t₀ u : TrayReader) (known : List Placed) (at : ℕ) → Part → Next → Type 0
ReadThen t₀ u known at p next = ReadSoFar t₀ u (known ++ at_place p at ∷ []) next (at + length (written p))

-- none is read
pub begun : (t : TrayReader) → ((parts : List Placed) (e : Ending) → Reading t parts e → Whole parts e) → ReadSoFar t t [] at_field 0
begun t all =
    let (ps, e, r, one) = reader_one_way t in
    let (bytes, reads) = all ps e r in
    record { parts = ps; ending = e; whole = r; others = ps; split = refl; left = r; bytes = bytes; reads = reads }

module _ {t₀ t : TrayReader} {known : List Placed} {next : Next} {at : ℕ} (so : ReadSoFar t₀ t known next at) where
  -- whatever the first reader had to come begins with these parts, and the others are to come from the second
  pub left_over : (parts : List Placed) (e : Ending) → Reading t₀ parts e → (others : List Placed) × (parts ≡ known ++ others) × Reading t others e
  left_over parts e r =
      let same = same_reading t₀ parts so.parts e so.ending r so.whole in
      (so.others, same.0 ∙ so.split, rw same.1 so.left)

  -- and they begin with what comes next
  pub still_to_come : (parts : List Placed) (e : Ending) → Reading t parts e → (bytes : List ℕ) × Reads next at bytes parts e
  still_to_come parts e r =
      let same = same_reading t parts so.others e so.ending r so.left in
      rw (same.0, same.1) (so.bytes, so.reads)

  pub to_come : ((w : ℕ) → next ≡ at_cards w 0 → ⊥) → PartToCome t
  to_come last = part_to_come t last so.left so.reads

  -- an item is a part that may stand there
  part_read : ((w : ℕ) → next ≡ at_cards w 0 → ⊥) → (u : TrayReader) (i : Item) → NextSaid t (Ok (Some i)) u
      → (p : Part) × (after : Next) × Follows next p after × (as_answer i ≡ due_part p at) × ReadThen t₀ u known at p after
  part_read last u i said =
      let now = said so.others so.ending so.left in
      let (p, after, f, is, split, (bytes, reads)) = part_said so.reads last i now.0 in (
        p,
        after,
        f,
        is,
        record {
          parts = so.parts;
          ending = so.ending;
          whole = so.whole;
          others = rest so.others;
          split = so.split ∙ ap (λ l. known ++ l) split ∙ sym (append_assoc known (at_place p at ∷ []) (rest so.others));
          left = now.1;
          bytes = bytes;
          reads = reads;
        },
      )

  -- a fault where the card count is not read yet
  pub early : (u : TrayReader) (f : Fault) → NextSaid t (Err f) u → length known < 4 → Every (λ p. refuses p.part ≡ None) known
      → (s : Stop) → s ≡ record { refusal = f.refusal; layer = layer.Reader; offset = f.offset }
      → (parts : List Placed) (e : Ending) → Reading t₀ parts e → StopsEarly parts e s
  early u f said l fits s q parts e r =
      let (others, split, left) = left_over parts e r in
      let none = fault_said t u f said others e left in
      let all : parts ≡ known = split ∙ ap (λ ps. known ++ ps) none.0 ∙ append-nil known in
      rw all (no_count (number f.refusal) f.offset l fits none.1 (cc, cc, cc))

-- thresholds that make no policy
pub misfit : {t₀ t : TrayReader} {f : Placed} {at at' : ℕ} {ts : List ℕ} {next : Next} → ReadSoFar t₀ t (f ∷ at_place (thresholds ts) at ∷ []) next at'
    → (n : ℕ) → refuses_policy ts ≡ Some n → (s : Stop) → Stops n layer.Policy at s
    → (parts : List Placed) (e : Ending) → Reading t₀ parts e → StopsEarly parts e s
misfit {f} {at} {ts} so n bad s stop parts e r =
    let (others, split, left) = left_over so parts e r in
    no_policy (f ∷ []) (at_place (thresholds ts) at) others n split bad stop

-- what an item is where this comes next; each wants a case for every kind of item
is_field : {p : Part} {after : Next} (at : ℕ) (i : Item) → Follows at_field p after → as_answer i ≡ due_part p at → (f : TrayField) × (i ≡ item.Field f)
is_field at (item.Field f) (a_field l h) e = (f, refl)
is_field at (item.Thresholds x o) (a_field l h) e = cc
is_field at (item.Words w) (a_field l h) e = cc
is_field at (item.CardCount n) (a_field l h) e = cc
is_field at (item.Card x o) (a_field l h) e = cc

is_thresholds : {p : Part} {after : Next} (at : ℕ) (i : Item) → Follows at_thresholds p after → as_answer i ≡ due_part p at → (x : Bor (List ℕ)) × (o : ℕ) × (i ≡ item.Thresholds x o)
is_thresholds at (item.Field f) some_thresholds e = cc
is_thresholds at (item.Thresholds x o) some_thresholds e = (x, o, refl)
is_thresholds at (item.Words w) some_thresholds e = cc
is_thresholds at (item.CardCount n) some_thresholds e = cc
is_thresholds at (item.Card x o) some_thresholds e = cc

is_words : {p : Part} {after : Next} (at : ℕ) (i : Item) → Follows at_words p after → as_answer i ≡ due_part p at → (w : ℕ) × (i ≡ item.Words w)
is_words at (item.Field f) (some_words l h) e = cc
is_words at (item.Thresholds x o) (some_words l h) e = cc
is_words at (item.Words w) (some_words l h) e = (w, refl)
is_words at (item.CardCount n) (some_words l h) e = cc
is_words at (item.Card x o) (some_words l h) e = cc

is_count : {p : Part} {w : ℕ} {after : Next} (at : ℕ) (i : Item) → Follows (at_count w) p after → as_answer i ≡ due_part p at → (n : ℕ) × (i ≡ item.CardCount n)
is_count at (item.Field f) a_count e = cc
is_count at (item.Thresholds x o) a_count e = cc
is_count at (item.Words w) a_count e = cc
is_count at (item.CardCount n) a_count e = (n, refl)
is_count at (item.Card x o) a_count e = cc

module _ {t₀ t : TrayReader} {known : List Placed} {at : ℕ} (u : TrayReader) (i : Item) (said : NextSaid t (Ok (Some i)) u) where
  pub field_there : ReadSoFar t₀ t known at_field at → (f : TrayField) × (i ≡ item.Field f)
  field_there so = let (p, after, f, e, more) = part_read so (λ w e. cc) u i said in is_field at i f e

  pub field_read : ReadSoFar t₀ t known at_field at → (code : TrayField) → i ≡ item.Field code
      → ReadThen t₀ u known at (field (field_number code)) at_thresholds
  field_read so code is = let (p, after, f, e, more) = part_read so (λ w e. cc) u i said in go f e more
    where
      go : {p : Part} {after : Next} → Follows at_field p after → as_answer i ≡ due_part p at → ReadThen t₀ u known at p after
          → ReadThen t₀ u known at (field (field_number code)) at_thresholds
      go (a_field {b} l h) e more = let same : b ≡ field_number code = cc in rw same at more

  pub thresholds_there : ReadSoFar t₀ t known at_thresholds at → (x : Bor (List ℕ)) × (o : ℕ) × (i ≡ item.Thresholds x o)
  thresholds_there so = let (p, after, f, e, more) = part_read so (λ w e. cc) u i said in is_thresholds at i f e

  pub thresholds_read : ReadSoFar t₀ t known at_thresholds at → (x : Bor (List ℕ)) (o : ℕ) → i ≡ item.Thresholds x o
      → (o ≡ at + 1) × ReadThen t₀ u known at (thresholds x.now) at_words
  thresholds_read so x o is = let (p, after, f, e, more) = part_read so (λ w e. cc) u i said in go f e more
    where
      go : {p : Part} {after : Next} → Follows at_thresholds p after → as_answer i ≡ due_part p at → ReadThen t₀ u known at p after
          → (o ≡ at + 1) × ReadThen t₀ u known at (thresholds x.now) at_words
      go (some_thresholds {ts}) e more = let same : ts ≡ x.now = cc in (cc, rw same at more)

  pub words_there : ReadSoFar t₀ t known at_words at → (w : ℕ) × (i ≡ item.Words w)
  words_there so = let (p, after, f, e, more) = part_read so (λ w e. cc) u i said in is_words at i f e

  pub words_read : ReadSoFar t₀ t known at_words at → (w : ℕ) → i ≡ item.Words w
      → (1 ≤ w) × (w ≤ 16) × ReadThen t₀ u known at (words w) (at_count w)
  words_read so w is = let (p, after, f, e, more) = part_read so (λ w e. cc) u i said in go f e more
    where
      go : {p : Part} {after : Next} → Follows at_words p after → as_answer i ≡ due_part p at → ReadThen t₀ u known at p after
          → (1 ≤ w) × (w ≤ 16) × ReadThen t₀ u known at (words w) (at_count w)
      go (some_words {w = v} l h) e more = let same : v ≡ w = cc in (rw same at l, rw same at h, rw same at more)

  pub count_there : (w : ℕ) → ReadSoFar t₀ t known (at_count w) at → (n : ℕ) × (i ≡ item.CardCount n)
  count_there w so = let (p, after, f, e, more) = part_read so (λ w e. cc) u i said in is_count at i f e

  pub count_read : {w : ℕ} → ReadSoFar t₀ t known (at_count w) at → (n : ℕ) → i ≡ item.CardCount n
      → ReadThen t₀ u known at (card_count n) (at_cards w n)
  count_read {w} so n is = let (p, after, f, e, more) = part_read so (λ w e. cc) u i said in go f e more
    where
      go : {p : Part} {after : Next} → Follows (at_count w) p after → as_answer i ≡ due_part p at → ReadThen t₀ u known at p after
          → ReadThen t₀ u known at (card_count n) (at_cards w n)
      go (a_count {n = m}) e more = let same : m ≡ n = cc in rw same at more
