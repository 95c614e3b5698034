-- The layout reads one way.
--   apart        of the parts that may stand at a place, none is the beginning of another
--   goes_on, stops, ends   what a reading is where a part stands, where something is wrong, and at the end
--   once         from one place on there is no second reading
--   full_thresholds   thresholds that are all there
--   no_field, no_thresholds, few_thresholds, no_words, no_count, half_card   what is cut short
--   one_reading  from each place on there is a reading, and no other
--   one_way      this of a whole tray
-- Assumes nothing.
use Rattle.std.proofs.Common.{◌≡◌, ◌⊎◌, inl, inr, ℕ, zero, suc, ◌+◌, ◌-◌, ◌<◌, ◌≤◌, List, [], ◌∷◌, ◌++◌, length, take, drop, replicate, sym, refl, ap, ◌∙◌, subst, arith}
use native.Mathlib.Decide.{dec_le}
use Rattle.std.proofs.lemmas.List.{append-nil, append_assoc, length-append, length-replicate, length-take-le, take_at, drop_at, take-append-drop}
use Rattle.trays.specs.Layout.{Part, thresholds, card, written, Next, at_field, at_thresholds, at_words, at_count, at_cards, card_size, Follows, a_field, some_thresholds, some_words, a_count, a_card, Wrong, cut_short, unknown_field, wrong_words, more_bytes, Ending, ended, fault, Placed, Reads, done, broken, then, OneReading, TrayReadsOneWay}

-- two lists that begin with lists of one length
parted : (a b x y : List ℕ) → length a ≡ length b → a ++ x ≡ b ++ y → (a ≡ b) × (x ≡ y)
parted a b x y h e = (
  sym (take_at a x (length b) h) ∙ ap (take (length b)) e ∙ take_at b y (length b) refl,
  sym (drop_at a x (length b) h) ∙ ap (drop (length b)) e ∙ drop_at b y (length b) refl,
)

-- of the parts that may stand at a place, none is the beginning of another
apart : {next a b : Next} {p q : Part} → Follows next p a → Follows next q b → (x y : List ℕ) → written p ++ x ≡ written q ++ y
    → (p ≡ q) × (a ≡ b) × (x ≡ y)
apart (a_field l h) (a_field l' h') x y e = (cc, refl, cc)
apart (some_thresholds {ts}) (some_thresholds {ts = us}) x y e =
    let n : length ts ≡ length us = cc in
    let t : ts ++ x ≡ us ++ y = cc in
    let both = parted ts us x y n t in
    (ap thresholds both.0, refl, both.1)
apart (some_words l h) (some_words l' h') x y e = (cc, cc, cc)
apart a_count a_count x y e = (cc, cc, cc)
apart (a_card {bytes = c} h) (a_card {bytes = d} h') x y e =
    let both = parted c d x y (h ∙ sym h') e in
    (ap card both.0, refl, both.1)

-- where as many bytes are there as all, none is missing
missed : (all there missing : List ℕ) → all ≡ there ++ missing → length all ≤ length there → 0 < length missing → ⊥
missed all there missing e l h = omega (arith, length-append there missing, ap length e)

-- a part that stands there is not cut short
not_short : {next a b : Next} {p q : Part} → Follows next p a → Follows next q b → (rest missing bytes : List ℕ) → bytes ≡ written p ++ rest → written q ≡ bytes ++ missing → 0 < length missing → ⊥
not_short {p} {q} f g rest missing bytes e m h =
    let same : written p ++ (rest ++ missing) ≡ written q ++ [] = sym (append_assoc (written p) rest missing) ∙ ap (λ b. b ++ missing) (sym e) ∙ sym m ∙ sym (append-nil (written q)) in
    missed [] rest missing (sym (apart f g (rest ++ missing) [] same).2) (omega arith) h

-- a part that stands there is not wrong
not_wrong : {next a : Next} {p : Part} {bytes : List ℕ} {n : ℕ} (rest : List ℕ) → Follows next p a → bytes ≡ written p ++ rest → Wrong next bytes n → ⊥
not_wrong rest f e (cut_short {bytes} missing g m h) = not_short f g rest missing bytes e m h
not_wrong rest (a_field {b = c} l h) e (unknown_field {b} bad) = let s : b ≡ c = cc in bad (rw s l) (rw s h)
not_wrong rest (some_words {w = c} l h) e (wrong_words {w} bad) = let s : w ≡ c = cc in bad (rw s l) (rw s h)
not_wrong rest f e more_bytes = elim f [ ]

-- one thing is wrong
wrong_once : {next : Next} {bytes : List ℕ} {m n : ℕ} → Wrong next bytes m → Wrong next bytes n → m ≡ n
wrong_once (cut_short m f e h) (cut_short m' g e' h') = refl
wrong_once (cut_short missing (a_field {b = c} l g) e h) (unknown_field {b} {rest} bad) = absurd (missed (c ∷ []) (b ∷ rest) missing e (omega arith) h)
wrong_once (cut_short missing (some_words {w = c} l g) e h) (wrong_words {w} {rest} bad) = absurd (missed (c ∷ []) (w ∷ rest) missing e (omega arith) h)
wrong_once (unknown_field {b} {rest} bad) (cut_short missing (a_field {b = c} l g) e h) = absurd (missed (c ∷ []) (b ∷ rest) missing e (omega arith) h)
wrong_once (unknown_field bad) (unknown_field bad') = refl
wrong_once (wrong_words {w} {rest} bad) (cut_short missing (some_words {w = c} l g) e h) = absurd (missed (c ∷ []) (w ∷ rest) missing e (omega arith) h)
wrong_once (wrong_words bad) (wrong_words bad') = refl
wrong_once (cut_short m f e h) more_bytes = elim f [ ]
wrong_once more_bytes (cut_short m g e h) = elim g [ ]
wrong_once more_bytes more_bytes = refl

-- what stands where a part stands
pub goes_on : {next a : Next} {p : Part} {at : ℕ} {bytes : List ℕ} {parts : List Placed} {e : Ending} (rest : List ℕ) → Follows next p a → bytes ≡ written p ++ rest → Reads next at bytes parts e
    → (ps : List Placed) × (parts ≡ record { part = p; offset = at } ∷ ps) × Reads a (at + length (written p)) rest ps e
goes_on rest f h done = elim f [ ]
goes_on rest f h (broken w) = absurd (not_wrong rest f h w)
goes_on {a} {p} {at} {e} rest f h (then {after} {p = q} {rest = other} {parts = ps} g k r) =
    let same = apart g f other rest (sym k ∙ h) in (
      ps,
      ap (λ x. record { part = x; offset = at } ∷ ps) same.0,
      subst (λ x. Reads a (at + length (written x)) rest ps e) same.0 (subst (λ x. Reads a (at + length (written q)) x ps e) same.2 (subst (λ x. Reads x (at + length (written q)) other ps e) same.1 r)),
    )

-- no card left and no byte is not wrong
whole : {w n : ℕ} → Wrong (at_cards w 0) [] n → ⊥
whole (cut_short m f e h) = elim f [ ]

-- what stands where something is wrong
pub stops : {next : Next} {at n : ℕ} {bytes : List ℕ} {parts : List Placed} {e : Ending} → Wrong next bytes n → Reads next at bytes parts e → (parts ≡ []) × (e ≡ fault n at)
stops {at} w (broken v) = (refl, ap (λ m. fault m at) (wrong_once v w))
stops w (then {rest} g k r) = absurd (not_wrong rest g k w)
stops w done = absurd (whole w)

-- what stands where no card is left and no byte
pub ends : {w at : ℕ} {parts : List Placed} {e : Ending} → Reads (at_cards w 0) at [] parts e → (parts ≡ []) × (e ≡ ended)
ends done = (refl, refl)
ends (broken w) = absurd (whole w)
ends (then g k r) = elim g [ ]

-- from one place on there is one reading
pub once : {next : Next} {at : ℕ} {bytes : List ℕ} {parts others : List Placed} {e f : Ending} → Reads next at bytes parts e → Reads next at bytes others f → (others ≡ parts) × (f ≡ e)
once done s = ends s
once (broken w) s = stops w s
once {at} (then {p} {rest} {parts = ps} g k r) s =
    let more = goes_on rest g k s in
    let same = once r more.2 in
    (more.1 ∙ ap (λ x. record { part = p; offset = at } ∷ x) same.0, same.1)

abbrev SomeReading : Next → ℕ → List ℕ → Type 0
SomeReading next at bytes = (parts : List Placed) × (e : Ending) × Reads next at bytes parts e

one_more : {next after : Next} {p : Part} {at : ℕ} (bytes rest : List ℕ) → Follows next p after → bytes ≡ written p ++ rest → SomeReading after (at + length (written p)) rest → SomeReading next at bytes
one_more {p} {at} bytes rest f h r = (record { part = p; offset = at } ∷ r.0, r.1, then f h r.2)

-- what is cut short
pub no_field : Wrong at_field [] 1
no_field = cut_short (1 ∷ []) (a_field {b = 1} (omega arith) (omega arith)) refl (omega arith)

pub no_thresholds : Wrong at_thresholds [] 1
no_thresholds = cut_short (0 ∷ []) (some_thresholds {ts = []}) refl (omega arith)

pub few_thresholds : (n : ℕ) (rest : List ℕ) → length rest < n → Wrong at_thresholds (n ∷ rest) 1
few_thresholds n rest h =
    let zeros : List ℕ = replicate (n - length rest) 0 in
    let z : length zeros ≡ n - length rest = length-replicate (n - length rest) 0 in
    let k : length (rest ++ zeros) ≡ n = length-append rest zeros ∙ omega arith in
    cut_short zeros (some_thresholds {ts = rest ++ zeros}) (ap (λ m. m ∷ (rest ++ zeros)) k) (omega arith)

pub no_words : Wrong at_words [] 1
no_words = cut_short (1 ∷ []) (some_words {w = 1} (omega arith) (omega arith)) refl (omega arith)

pub no_count : {w : ℕ} → Wrong (at_count w) [] 1
no_count = cut_short (0 ∷ []) (a_count {n = 0}) refl (omega arith)

pub half_card : {w n : ℕ} (bytes : List ℕ) → length bytes < card_size w → Wrong (at_cards w (suc n)) bytes 1
half_card {w} bytes h =
    let zeros : List ℕ = replicate (card_size w - length bytes) 0 in
    let z : length zeros ≡ card_size w - length bytes = length-replicate (card_size w - length bytes) 0 in
    cut_short zeros (a_card {bytes = bytes ++ zeros} (length-append bytes zeros ∙ omega arith)) refl (omega arith)

-- a threshold section that is all there
pub full_thresholds : (n : ℕ) (rest : List ℕ) → n ≤ length rest → n ∷ rest ≡ written (thresholds (take n rest)) ++ drop n rest
full_thresholds n rest h =
    ap (λ m. m ∷ rest) (sym (length-take-le n rest h)) ∙ ap (λ xs. length (take n rest) ∷ xs) (sym (take-append-drop n rest))

-- a number is one of the first ones, or not
within : (b most : ℕ) → ((1 ≤ b) × (b ≤ most)) ⊎ (1 ≤ b → b ≤ most → ⊥)
within b most =
    elim (dec_le 1 b) [
      | yes l ↦ elim (dec_le b most) [ yes h ↦ inl (l, h) | no h ↦ inr (λ _ k. h k) ]
      | no l ↦ inr (λ k _. l k)
    ]

-- there is a reading from each place on
reads_cards : (w n at : ℕ) (bytes : List ℕ) → SomeReading (at_cards w n) at bytes
reads_cards w zero at [] = ([], ended, done)
reads_cards w zero at (b ∷ rest) = ([], fault 15 at, broken more_bytes)
reads_cards w (suc n) at bytes =
    elim (dec_le (card_size w) (length bytes)) [
      | yes h ↦ one_more bytes (drop (card_size w) bytes) (a_card (length-take-le (card_size w) bytes h)) (sym (take-append-drop (card_size w) bytes)) (reads_cards w n (at + length (take (card_size w) bytes)) (drop (card_size w) bytes))
      | no h ↦ ([], fault 1 at, broken (half_card bytes (omega arith)))
    ]

reads_count : (w at : ℕ) (bytes : List ℕ) → SomeReading (at_count w) at bytes
reads_count w at [] = ([], fault 1 at, broken no_count)
reads_count w at (n ∷ rest) = one_more (n ∷ rest) rest a_count refl (reads_cards w n (at + 1) rest)

reads_words : (at : ℕ) (bytes : List ℕ) → SomeReading at_words at bytes
reads_words at [] = ([], fault 1 at, broken no_words)
reads_words at (w ∷ rest) =
    elim (within w 16) [
      | inl k ↦ one_more (w ∷ rest) rest (some_words k.0 k.1) refl (reads_count w (at + 1) rest)
      | inr out ↦ ([], fault 5 at, broken (wrong_words out))
    ]

reads_thresholds : (at : ℕ) (bytes : List ℕ) → SomeReading at_thresholds at bytes
reads_thresholds at [] = ([], fault 1 at, broken no_thresholds)
reads_thresholds at (n ∷ rest) =
    elim (dec_le n (length rest)) [
      | yes h ↦ one_more (n ∷ rest) (drop n rest) (some_thresholds {ts = take n rest}) (full_thresholds n rest h) (reads_words (at + suc (length (take n rest))) (drop n rest))
      | no h ↦ ([], fault 1 at, broken (few_thresholds n rest (omega arith)))
    ]

reads_field : (at : ℕ) (bytes : List ℕ) → SomeReading at_field at bytes
reads_field at [] = ([], fault 1 at, broken no_field)
reads_field at (b ∷ rest) =
    elim (within b 2) [
      | inl k ↦ one_more (b ∷ rest) rest (a_field k.0 k.1) refl (reads_thresholds (at + 1) rest)
      | inr out ↦ ([], fault 2 at, broken (unknown_field out))
    ]

reads_from : (next : Next) (at : ℕ) (bytes : List ℕ) → SomeReading next at bytes
reads_from at_field at bytes = reads_field at bytes
reads_from at_thresholds at bytes = reads_thresholds at bytes
reads_from at_words at bytes = reads_words at bytes
reads_from (at_count w) at bytes = reads_count w at bytes
reads_from (at_cards w n) at bytes = reads_cards w n at bytes

-- from each place on there is one reading, and no other
pub one_reading : (next : Next) (at : ℕ) (bytes : List ℕ) → OneReading (Reads next at bytes)
one_reading next at bytes =
    let r = reads_from next at bytes in
    (r.0, r.1, r.2, λ others f s. once r.2 s)

pub one_way : TrayReadsOneWay
one_way bytes = one_reading at_field 0 bytes
