-- Cards that are presented one after the other.
--   SoFar                        of these cards the first are presented, and the others are to come
--   presented_is                 the card that bytes are is the one that is presented
--   told_refused, told_held      what is told of a card that is refused, and of one that is not
--   a_card_is                    an item that is said as a card is one
--   card_next, end_next          where cards are to come an item is one, and where none is there is no item
--   card_first                   a card that is to come has its length, and the others come after it
--   so_far_more                  one more is presented
-- Assumes nothing.
use Rattle.std.proofs.Common.{◌≡◌, ℕ, suc, ◌+◌, ◌-◌, ◌≤◌, List, [], ◌∷◌, ◌++◌, length, take, drop, replicate, Some, None, Ok, Option, sym, refl, ap, ◌∙◌, arith, Bor}
use Rattle.std.proofs.lemmas.List.{append_assoc, length-append, map_push, take_at}
use Rattle.fields.specs.Arithmetic.{Arithmetic}
use Rattle.sharing.specs.Cards.{Card}
use Rattle.sharing.specs.Refusals.{number}
use Rattle.pools.specs.Sessions.{CardList, Call, present, step, refuses_card, answer_of, done as held_well, refused_by}
use Rattle.sharing.specs.declared.refusal.Refusal.{Refusal}
use Rattle.trays.specs.Answers.{gave_at, as_answer, due, rest, Reading, NextSaid}
use Rattle.trays.specs.Cards.{Says, values_in}
use Rattle.trays.specs.Layout.{card, card_size, written, at_cards, a_card, Ending, Placed, Reads, done, broken, then}
use Rattle.reports.specs.Runs.{card_in, list_after, told, turned_by, turned_from}
use Rattle.reports.specs.Steps.{ToCome}
use Rattle.trays.specs.declared.item.Item.{Item}
use Rattle.trays.specs.declared.item.Item.TheVariants as item
use Rattle.trays.specs.declared.reader.TrayReader.{TrayReader}
use Rattle.reports.specs.declared.report.RefusedCard.{RefusedCard}
use Rattle.pools.proofs.Running.{after_push}
use Rattle.reports.proofs.Said.{card_said}
use Rattle.trays.proofs.Numbers.{length_numbers}
use Rattle.reports.proofs.Openings.{no_fault}

-- of these cards with this ending the first i are presented, and the others are to come
pub record SoFar (F : Arithmetic) (ts : List ℕ) (w n i : ℕ) (s : CardList) (refused : List RefusedCard) (t : TrayReader) (ps : List Placed) (e : Ending) : Type 0 where
  pub before : List Placed
  pub others : List Placed
  pub split : ps ≡ before ++ others
  pub counted : length before ≡ i
  pub left : Reading t others e
  pub to_come : ToCome w (n - i) others e
  pub list : s ≡ list_after F ts w before
  pub refusals : turned_by refused ++ turned_from F ts w before others ≡ turned_from F ts w [] ps

-- the card that bytes are is the one that was presented
pub presented_is : {w n : ℕ} {bytes : List ℕ} {level id : ℕ} {values : List ℕ} → n ≡ w → Says n bytes level id values → ◌≡◌ {A = Card} (record { level = level; id = id; values = take n values }) (card_in w bytes)
presented_is {n} {bytes} {values} wide says =
    let numbers = values_in n bytes in
    let front : take n values ≡ numbers = ap (take n) says.values_are ∙ take_at numbers (replicate (16 - n) 0) n (length_numbers n (drop 5 bytes)) in
    rw (front, says.level_is, says.id_is, wide) refl

pub told_refused : (k at : ℕ) {o p : Option ℕ} (r : Refusal) → refused_by (number r) ≡ answer_of o → o ≡ p → told k at p ≡ record { ordinal = k; offset = at; reason = number r } ∷ []
told_refused k at {p = None} r h same = cc
told_refused k at {p = Some n} r h same = let is : n ≡ number r = cc in ap (λ x. record { ordinal = k; offset = at; reason = x } ∷ []) is

pub told_held : (k at : ℕ) {o p : Option ℕ} → held_well ≡ answer_of o → o ≡ p → told k at p ≡ []
told_held k at {p = None} h same = refl
told_held k at {p = Some n} h same = cc

a_card_is : (i : Item) (bytes : List ℕ) (at : ℕ) → as_answer i ≡ gave_at (card bytes) at → (x : Bor (List ℕ)) × (o : ℕ) × (i ≡ item.Card x o)
a_card_is (item.Field n) bytes at h = cc
a_card_is (item.Thresholds x o) bytes at h = cc
a_card_is (item.Words n) bytes at h = cc
a_card_is (item.CardCount n) bytes at h = cc
a_card_is (item.Card x o) bytes at h = (x, o, refl)

pub card_next : (i : Item) {w m at : ℕ} {bytes : List ℕ} {parts : List Placed} {e : Ending} → Reads (at_cards w m) at bytes parts e → 1 ≤ m → as_answer i ≡ due parts e → (x : Bor (List ℕ)) × (o : ℕ) × (i ≡ item.Card x o)
card_next i done l said = absurd (omega arith)
card_next i (broken {at} {n} w) l said = absurd (no_fault i n at said)
card_next i {at} (then (a_card {bytes} h) k r) l said = a_card_is i bytes at said

-- where no card is to come there is no item
pub end_next : (i : Item) {w m at : ℕ} {bytes : List ℕ} {parts : List Placed} {e : Ending} → Reads (at_cards w m) at bytes parts e → m ≡ 0 → as_answer i ≡ due parts e → ⊥
end_next (item.Field n) done l said = cc
end_next (item.Thresholds x o) done l said = cc
end_next (item.Words n) done l said = cc
end_next (item.CardCount n) done l said = cc
end_next (item.Card x o) done l said = cc
end_next i (broken {at} {n} w) l said = absurd (no_fault i n at said)
end_next i (then (a_card h) k r) l said = absurd (omega arith)

-- a card that is to come has its length, and the others come after it
pub card_first : {w m at : ℕ} {bytes : List ℕ} {parts : List Placed} {e : Ending} {c : List ℕ} {o : ℕ} {qs : List Placed} → Reads (at_cards w m) at bytes parts e → parts ≡ record { part = card c; offset = o } ∷ qs
    → (length c ≡ card_size w) × ToCome w (m - 1) qs e
card_first done h = cc
card_first (broken w) h = cc
card_first {e} {c} {o} {qs} (then {at} {rest = more} {parts = ps} (a_card {w} {n} {bytes = b} long) k r) h =
    let head : ◌≡◌ {A = Placed} (record { part = card b; offset = at }) (record { part = card c; offset = o }) = cc in
    let part_is : card b ≡ card c = ap (λ p. p.part) head in
    let same : b ≡ c = cc in
    let others : ps ≡ qs = cc in
    let less : n ≡ suc n - 1 = omega arith in (
      ap length (sym same) ∙ long,
      (at + length b, more, rw (← less, ← others) r),
    )

module _ (F : Arithmetic) (ts : List ℕ) (w : ℕ) where
  pub so_far_more : {n i : ℕ} {s s' : CardList} {r r' : List RefusedCard} {t t' : TrayReader} {ps : List Placed} {e : Ending} {x : Bor (List ℕ)} {o : ℕ} {it : Item}
      → it ≡ item.Card x o → NextSaid t (Ok (Some it)) t'
      → s' ≡ step F ts w s (present (card_in w x.now))
      → turned_by r' ≡ turned_by r ++ told (i + 1) o (refuses_card F ts w s.held (card_in w x.now))
      → SoFar F ts w n i s r t ps e → SoFar F ts w n (i + 1) s' r' t' ps e
  so_far_more {n} {i} {s} {r} {t} {t'} {e} {x} {o} {it} h said list refusals so =
      let c = card_in w x.now in
      let p : Placed = record { part = card x.now; offset = o } in
      let before = so.before in
      let qs = rest so.others in
      let is = card_said t t' h said so.others e so.left in
      let first = card_first so.to_come.2 is in
      let less : n - i - 1 ≡ n - (i + 1) = omega arith in
      let f : Placed → Call = λ q. present (card_in w (written q.part)) in
      record {
        before = before ++ p ∷ [];
        others = qs;
        split = so.split ∙ ap (λ l. before ++ l) is ∙ sym (append_assoc before (p ∷ []) qs);
        counted = length-append before (p ∷ []) ∙ ap (λ k. k + 1) so.counted;
        left = (said so.others e so.left).1;
        to_come = rw (← less) first.1;
        list = rw (list, so.list, map_push, after_push) refl;
        refusals = rw (refusals, ← so.counted, so.list, append_assoc) (rw is at so.refusals);
      }
