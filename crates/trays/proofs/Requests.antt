-- What a request says agrees with the layout, for each thing that a reader may find where it stands.
--   cut          bytes cut out of others: how many they are, and what stands before and behind the cut
--   begins       what is left begins with a byte
--   refused      what is there is wrong, and the fault is said
--   no_byte      the same, where no byte is left
--   wrong_byte   the same, where a byte is left
--   given        a part is there, and it is said
--   byte_given   the same of a part of one byte
--   ended_here   no card is to come and no byte is left
--   at_end       where no card is to come, what is said of that is said of what is to come
--   field_follows, card_follows   a field, or a card, may stand where one is to come
--   no_card      a card is to come, and fewer bytes are left
--   words_refused, words_taken    which numbers of words are refused, and by which number, and which are not
-- Assumes nothing.
use Rattle.std.proofs.Common.{◌≡◌, ℕ, zero, suc, ◌+◌, ◌-◌, ◌<◌, ◌≤◌, List, [], ◌∷◌, ◌++◌, length, get_or, take, drop, Ok, Err, Some, None, Option, Result, sym, refl, ap, ◌∙◌, subst, arith}
use native.Mathlib.Numerals.{unary_clauses}
use Rattle.std.proofs.lemmas.Bool.Decides.{nat_tests}
use Rattle.std.proofs.lemmas.List.{drop_more, drop_all, drop-drop, length-drop, length-take-le, take-append-drop}
use Rattle.sharing.specs.declared.refusal.Refusal.{Refusal}
use Rattle.sharing.specs.declared.refusal.Refusal.TheVariants as refusal
use Rattle.sharing.specs.Refusals.{number, refuses_words}
use Rattle.trays.specs.declared.item.Item.{Item}
use Rattle.trays.specs.declared.item.Fault.{Fault}
use Rattle.trays.specs.declared.reader.Stage.TheVariants as stage
use Rattle.trays.specs.declared.reader.TrayReader.{TrayReader}
use Rattle.trays.specs.declared.field.TrayField.{TrayField}
use Rattle.trays.specs.declared.field.TrayField.TheVariants.{Bytes, Wide}
use Rattle.trays.specs.Fields.{field_number}
use Rattle.trays.specs.Layout.{Part, field, card, written, Next, at_field, at_thresholds, at_cards, card_size, Follows, a_field, a_card, Wrong, Ending, Placed, Reads}
use Rattle.trays.specs.Answers.{over, as_answer, due, due_part, rest, From, Reading, Said, SaidFrom, fault_at}
use Rattle.trays.proofs.OneWay.{goes_on, stops, ends, half_card}

-- bytes cut out of others
pub cut : (bs : List ℕ) (p n : ℕ) (s : List ℕ) → (p + n ≤ length bs) × (s ≡ take n (drop p bs)) → (length s ≡ n) × (drop p bs ≡ s ++ drop (p + n) bs)
cut bs p n s h = (
  ap length h.1 ∙ length-take-le n (drop p bs) (omega (arith, length-drop p bs, h.0)),
  sym (take-append-drop n (drop p bs)) ∙ ap (λ x. x ++ drop n (drop p bs)) (sym h.1) ∙ ap (λ x. s ++ x) (drop-drop n p bs),
)

-- what is left begins with a byte
pub begins : (bs : List ℕ) (p b : ℕ) → (p < length bs) × (b ≡ get_or bs p 0) → b ∷ drop (p + 1) bs ≡ drop p bs
begins bs p b h = ap (λ x. x ∷ drop (p + 1) bs) h.1 ∙ sym (drop_more bs p 0 h.0)

-- what is there is wrong, and the fault is said
pub refused : (next : Next) (t : TrayReader) (k : Refusal) (r : Result (Option Item) Fault) → r ≡ Err (fault_at t k) → Wrong next (drop t.position t.bytes.now) (number k) → SaidFrom next t r t
refused next t k r e w =
    rw e (record {
      same = refl;
      said = λ parts ending reads. let s = stops w reads in (ap over (sym s.1) ∙ ap (λ ps. due ps ending) (sym s.0), (ap rest s.0, s.1));
    })

-- no byte is left where one has to be
pub no_byte : (next : Next) (t : TrayReader) (r : Result (Option Item) Fault) → r ≡ Err (fault_at t refusal.TrayEndsEarly) → length t.bytes.now ≤ t.position → Wrong next [] 1 → SaidFrom next t r t
no_byte next t r e h w = refused next t refusal.TrayEndsEarly r e (rw (drop_all t.position t.bytes.now h) w)

-- a byte is there, and what is there is wrong
pub wrong_byte : (next : Next) (t : TrayReader) (k : Refusal) (r : Result (Option Item) Fault) (b : ℕ) → r ≡ Err (fault_at t k) → (t.position < length t.bytes.now) × (b ≡ get_or t.bytes.now t.position 0)
    → Wrong next (b ∷ drop (t.position + 1) t.bytes.now) (number k) → SaidFrom next t r t
wrong_byte next t k r b e h w = refused next t k r e (rw (← begins t.bytes.now t.position b h) w)

-- a part is there, and it is said
pub given : (next after : Next) (t u : TrayReader) (part : Part) (i : Item) → as_answer i ≡ due_part part t.position → u.bytes ≡ t.bytes → Follows next part after
    → drop t.position t.bytes.now ≡ written part ++ drop u.position t.bytes.now → t.position + length (written part) ≡ u.position
    → ((ps : List Placed) (e : Ending) → Reads after u.position (drop u.position t.bytes.now) ps e → From u.stage u.position t.bytes.now ps e)
    → SaidFrom next t (Ok (Some i)) u
given next after t u part i says same f split place stands = record {
  same = same;
  said = λ parts e r.
      let m = goes_on (drop u.position t.bytes.now) f split r in
      let read : Reads after u.position (drop u.position t.bytes.now) m.0 e = subst (λ at. Reads after at (drop u.position t.bytes.now) m.0 e) place m.2 in
      (says ∙ ap (λ ps. due ps e) (sym m.1), subst (λ bytes. From u.stage u.position bytes.now (rest parts) e) (sym same) (subst (λ ps. From u.stage u.position t.bytes.now (rest ps) e) (sym m.1) (stands m.0 e read)));
}

-- a part of one byte is there, and it is said
pub byte_given : (next after : Next) (t u : TrayReader) (b : ℕ) (part : Part) (i : Item) → (t.position < length t.bytes.now) × (b ≡ get_or t.bytes.now t.position 0) → written part ≡ b ∷ []
    → as_answer i ≡ due_part part t.position → u.bytes ≡ t.bytes → Follows next part after → u.position ≡ t.position + 1
    → ((ps : List Placed) (e : Ending) → Reads after u.position (drop u.position t.bytes.now) ps e → From u.stage u.position t.bytes.now ps e)
    → SaidFrom next t (Ok (Some i)) u
byte_given next after t u b part i h w says same f place stands =
    given next after t u part i says same f
    (sym (begins t.bytes.now t.position b h) ∙ ap (λ x. x ++ drop (t.position + 1) t.bytes.now) (sym w) ∙ ap (λ at. written part ++ drop at t.bytes.now) (sym place))
    (ap (λ x. t.position + length x) w ∙ sym place)
    stands

-- no card is to come and no byte is left
pub ended_here : (w : ℕ) (t u : TrayReader) → length t.bytes.now ≤ t.position → u.bytes ≡ t.bytes → u.stage ≡ stage.End → SaidFrom (at_cards w 0) t (Ok None) u
ended_here w t u h same at_end = record {
  same = same;
  said = λ parts e r.
      let s = ends {w = w} {at = t.position} (subst (λ bs. Reads (at_cards w 0) t.position bs parts e) (drop_all t.position t.bytes.now h) r) in
      (ap over (sym s.1) ∙ ap (λ ps. due ps e) (sym s.0), subst (λ x. From x u.position u.bytes.now (rest parts) e) (sym at_end) (ap rest s.0, s.1));
}

-- where no card is to come, what is said of that is said of what is to come
pub at_end : (w : ℕ) (t u : TrayReader) (r : Result (Option Item) Fault) → t.stage ≡ stage.Cards w 0 → ((n : ℕ) → SaidFrom (at_cards n 0) t r u) → Said (Reading t) t r u
at_end w t u r stands said = let it = said w in record { same = it.same; said = λ ps e reads. it.said ps e (subst (λ s. From s t.position t.bytes.now ps e) stands reads) }

-- each field may stand where one has to
pub field_follows : (f : TrayField) → Follows at_field (field (field_number f)) at_thresholds
field_follows Bytes = a_field (omega arith) (omega arith)
field_follows Wide = a_field (omega arith) (omega arith)

-- a card may stand where one is to come
pub card_follows : (w n : ℕ) (c : List ℕ) → 1 ≤ n → length c ≡ card_size w → Follows (at_cards w n) (card c) (at_cards w (n - 1))
card_follows w zero c z h = absurd (omega arith)
card_follows w (suc n) c z h = simp unary_clauses (a_card h)

-- a card is to come, and fewer bytes are left
pub no_card : (w n : ℕ) (bs : List ℕ) (p : ℕ) → 1 ≤ n → length bs < p + card_size w → Wrong (at_cards w n) (drop p bs) 1
no_card w zero bs p z h = absurd (omega arith)
no_card w (suc n) bs p z h = half_card (drop p bs) (omega (arith, length-drop p bs))

-- which numbers of words are refused, and by which number
pub words_refused : (w n : ℕ) → Some n ≡ refuses_words w → (n ≡ 5) × (1 ≤ w → w ≤ 16 → ⊥)
words_refused w n e = (grind (arith, nat_tests), λ l h. grind (arith, nat_tests))

pub words_taken : (w : ℕ) → None ≡ refuses_words w → (1 ≤ w) × (w ≤ 16)
words_taken w e = (grind (arith, nat_tests), grind (arith, nat_tests))
