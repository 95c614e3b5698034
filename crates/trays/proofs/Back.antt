-- A sound tray reads back, and what reads to the end is one.
--   back    the bytes of a sound tray read as its parts
--   whole   bytes that read to the end are those of a sound tray
-- Assumes nothing.
use Rattle.std.proofs.Common.{◌≡◌, ℕ, suc, ◌+◌, List, [], ◌∷◌, ◌++◌, map, length, refl, ap, ◌∙◌}
use Rattle.std.specs.List.{flat_map}
use Rattle.trays.specs.Layout.{card, written, at_field, at_cards, card_size, a_field, some_thresholds, some_words, a_count, a_card, ended, Placed, placed, Reads, done, then, AllSized, parts_of, TrayReadsBack, WholeTrayIsSound}
use Rattle.trays.proofs.OneWay.{once}

cards_back : (w at : ℕ) (cs : List (List ℕ)) → AllSized (card_size w) cs → Reads (at_cards w (length cs)) at (flat_map written (map card cs)) (placed at (map card cs)) ended
cards_back w at [] s = done
cards_back w at (c ∷ cs) s = then (a_card s.0) refl (cards_back w (at + length c) cs s.1)

pub back : TrayReadsBack
back t s =
    let r : Reads at_field 0 (flat_map written (parts_of t)) (placed 0 (parts_of t)) ended =
    then (a_field s.code_low s.code_high) refl
    (then some_thresholds refl
    (then (some_words s.values_low s.values_high) refl
    (then a_count refl (cards_back t.values _ t.cards s.sized))))
    in
    (r, λ parts e o. once r o)

abbrev Cards : ℕ → ℕ → ℕ → List ℕ → List Placed → Type 0
Cards w n at bytes parts =
    (cs : List (List ℕ)) × (length cs ≡ n) × AllSized (card_size w) cs × (bytes ≡ flat_map written (map card cs)) × (parts ≡ placed at (map card cs))

whole_cards : {w n at : ℕ} {bytes : List ℕ} {parts : List Placed} → Reads (at_cards w n) at bytes parts ended → Cards w n at bytes parts
whole_cards done = ([], refl, tt, refl, refl)
whole_cards {at} (then {rest} (a_card {bytes = c} h) k r) =
    let more = whole_cards r in (
      c ∷ more.0,
      ap suc more.1,
      (h, more.2),
      k ∙ ap (λ b. c ++ b) more.3,
      ap (λ ps. record { part = card c; offset = at } ∷ ps) more.4,
    )

pub whole : WholeTrayIsSound
whole bytes parts (then (a_field {b} l h) k (then (some_thresholds {ts}) k₁ (then (some_words {w} l' h') k₂ (then (a_count {n}) k₃ r)))) =
    let cs = whole_cards r in
    let count = cs.1 in
    let bytes_are = cs.3 in
    let parts_are = cs.4 in (
      record { code = b; levels = ts; values = w; cards = cs.0 },
      record { code_low = l; code_high = h; values_low = l'; values_high = h'; sized = cs.2 },
      cc,
      cc,
    )
