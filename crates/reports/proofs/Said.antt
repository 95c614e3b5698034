-- What a request says of what was to come.
--   no_part            an ending is no part
--   over_due           where an ending is due there is no part, and it is the ending
--   card_is, card_due  where a card is due it is the first part
--   card_said          so it is where a request gave a card
--   fault_said         where it gave a fault, no part was to come, and the fault is the ending
-- Assumes nothing.
use Rattle.std.proofs.Common.{◌≡◌, ℕ, List, [], ◌∷◌, Some, Ok, Err, sym, refl, ap, ◌∙◌, Bor}
use Rattle.trays.specs.declared.item.Item.{Item}
use Rattle.trays.specs.declared.item.Item.TheVariants as item
use Rattle.trays.specs.declared.item.Fault.{Fault}
use Rattle.trays.specs.declared.reader.TrayReader.{TrayReader}
use Rattle.trays.specs.Layout.{Part, field, thresholds, words, card_count, card, Ending, Placed}
use Rattle.trays.specs.Answers.{gave_at, over, as_answer, as_ending, due, due_part, rest, Reading, NextSaid}

-- an ending is no part
pub no_part : (p : Part) (at : ℕ) (e : Ending) → over e ≡ due_part p at → ⊥
no_part (field b) at e h = cc
no_part (thresholds ts) at e h = cc
no_part (words w) at e h = cc
no_part (card_count n) at e h = cc
no_part (card bytes) at e h = cc

over_due : (parts : List Placed) (e f : Ending) → over e ≡ due parts f → (parts ≡ []) × (f ≡ e)
over_due [] e f h = (refl, cc)
over_due (p ∷ ps) e f h = absurd (no_part p.part p.offset e h)

card_is : (p : Part) (at : ℕ) (c : List ℕ) (o : ℕ) → gave_at (card c) o ≡ due_part p at → (p ≡ card c) × (at ≡ o)
card_is (field b) at c o h = (cc, cc)
card_is (thresholds ts) at c o h = (cc, cc)
card_is (words w) at c o h = (cc, cc)
card_is (card_count n) at c o h = (cc, cc)
card_is (card bytes) at c o h = (cc, cc)

card_due : (parts : List Placed) (e : Ending) (c : List ℕ) (o : ℕ) → gave_at (card c) o ≡ due parts e → parts ≡ record { part = card c; offset = o } ∷ rest parts
card_due [] e c o h = cc
card_due (p ∷ ps) e c o h =
    let is = card_is p.part p.offset c o h in
    ap (λ i. record { part = i; offset = p.offset } ∷ ps) is.0 ∙ ap (λ at. record { part = card c; offset = at } ∷ ps) is.1

module _ (before after : TrayReader) where
  pub card_said : {i : Item} {x : Bor (List ℕ)} {o : ℕ} → i ≡ item.Card x o → NextSaid before (Ok (Some i)) after → (parts : List Placed) (e : Ending) → Reading before parts e
      → parts ≡ record { part = card x.now; offset = o } ∷ rest parts
  card_said {x} {o} h said parts e r = card_due parts e x.now o (sym (ap as_answer h) ∙ (said parts e r).0)

  pub fault_said : (f : Fault) → NextSaid before (Err f) after → (parts : List Placed) (e : Ending) → Reading before parts e → (parts ≡ []) × (e ≡ as_ending f)
  fault_said f said parts e r = over_due parts (as_ending f) e (said parts e r).0
