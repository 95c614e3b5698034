-- Inner to a run: what its steps keep.
--   Whole         all of some tray is to come
--   PartToCome    a part is to come from a reader, or a fault
--   found         a part that was found, or a fault, as what a request gave
--   ToCome        these cards are to come, and then this ending
--   CardsToCome   so many cards are to come from a reader, or a fault
--   OpensAs       a tray opens so, and these cards are to come from the reader
--   OpensTo       what reading up to the cards gives
--   ReadyTo       a reader that was brought before the cards has them to come
--   PresentsTo    what presenting the cards gives
-- Assumes nothing.
use Rattle.std.specs.Prelude.{◌≡◌, ℕ, List, ◌++◌, Some, None, Ok, Err, Option, Result}
use Rattle.sharing.specs.Refusals.{refuses_policy}
use Rattle.trays.specs.Answers.{Reading, due, over}
use Rattle.trays.specs.Fields.{field_number}
use Rattle.trays.specs.Layout.{Ending, ended, fault, Placed, at_field, at_cards, Reads}
use Rattle.reports.specs.Runs.{StopsEarly, Stops, opening}
use Rattle.reports.specs.declared.opening.Opening.{Opening}
use Rattle.trays.specs.declared.item.Fault.{Fault}
use Rattle.trays.specs.declared.item.Item.{Item}
use Rattle.trays.specs.declared.reader.TrayReader.{TrayReader}
use Rattle.reports.specs.declared.report.Layer.TheVariants as layer
use Rattle.reports.specs.declared.report.Stop.{Stop}

abbrev pub Whole : List Placed → Ending → Type 0
Whole parts e = (bytes : List ℕ) × Reads at_field 0 bytes parts e

abbrev pub PartToCome : TrayReader → Type 0
PartToCome t = (parts : List Placed) (e : Ending) → Reading t parts e → due parts e ≡ over ended → ⊥

abbrev pub found : Result Item Fault → Result (Option Item) Fault
found (Ok i) = Ok (Some i)
found (Err f) = Err f

abbrev pub ToCome : ℕ → ℕ → List Placed → Ending → Type 0
ToCome w n cards e = (at : ℕ) × (bytes : List ℕ) × Reads (at_cards w n) at bytes cards e

abbrev pub CardsToCome : TrayReader → ℕ → ℕ → Type 0
CardsToCome t w n = (ps : List Placed) (e : Ending) → Reading t ps e → ToCome w n ps e

pub record OpensAs (o : Opening) (t : TrayReader) (parts : List Placed) (e : Ending) (cards : List Placed) : Type 0 where
  pub parts_are : parts ≡ opening (field_number o.field) o.policy o.words o.cards ++ cards
  pub fits : refuses_policy o.policy ≡ None
  pub left : Reading t cards e

abbrev pub OpensTo : Result Opening Stop → TrayReader → List Placed → Ending → Type 0
OpensTo (Ok o) t parts e = (cards : List Placed) × OpensAs o t parts e cards
OpensTo (Err s) t parts e = StopsEarly parts e s

abbrev pub ReadyTo : Result Opening Stop → TrayReader → Type 0
ReadyTo (Ok o) t = CardsToCome t o.words o.cards
ReadyTo (Err s) t = Unit {0}

abbrev pub PresentsTo : Result (Unit {0}) Stop → Ending → Type 0
PresentsTo (Ok u) e = e ≡ ended
PresentsTo (Err s) e = (n : ℕ) × (at : ℕ) × (e ≡ fault n at) × Stops n layer.Reader at s
