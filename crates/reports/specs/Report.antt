-- The text of a report, as bytes. Every line ends with a newline, and numbers are in decimal.
--   newline           the byte that ends a line
--   header_line       the first line: what the tray says before its cards
--   refused_line      a card that the pool turned away
--   counts_line       how many cards are held, and how many were turned away
--   verdict_line      the line of the verdict
--   layer_name        who refused, as a word
--   fault_line        what stopped a run, by its number, who refused, and where
--   header_text, conclusion_text   the first line if there is one; the counts and the verdict, or the fault
--   report_text       the whole text: the first line if there is one, the refused cards, and how the run came out
-- Assumes nothing.
use Rattle.std.specs.Prelude.{ℕ, List, [], ◌∷◌, ◌++◌, Some, None, Ok, Err, codes, decimal, Option, Result}
use Rattle.std.specs.List.{flat_map}
use Rattle.sharing.specs.Refusals.{number}
use Rattle.pools.specs.declared.judgement.Judgement.{Judgement}
use Rattle.pools.specs.Judging.{verdict_text}
use Rattle.reports.specs.declared.report.Header.{Header}
use Rattle.reports.specs.declared.report.Judged.{Judged}
use Rattle.reports.specs.declared.report.Layer.{Layer}
use Rattle.reports.specs.declared.report.Layer.TheVariants as layer
use Rattle.reports.specs.declared.report.RefusedCard.{RefusedCard}
use Rattle.reports.specs.declared.report.Stop.{Stop}
use Rattle.reports.specs.declared.report.TrayReport.{TrayReport}

abbrev pub newline : List ℕ
newline = 10 ∷ []

abbrev pub header_line : Header → List ℕ
header_line h =
    codes "field " ++ (decimal h.field ++ (codes " levels " ++ (decimal h.levels ++ (codes " words " ++ (decimal h.words ++ (codes " cards " ++ (decimal h.cards ++ newline)))))))

abbrev pub refused_line : RefusedCard → List ℕ
refused_line c =
    codes "card " ++ (decimal c.ordinal ++ (codes " at " ++ (decimal c.offset ++ (codes " refused " ++ (decimal (number c.refusal) ++ (codes " pool" ++ newline))))))

abbrev pub counts_line : ℕ → ℕ → List ℕ
counts_line held turned = codes "held " ++ (decimal held ++ (codes " turned " ++ (decimal turned ++ newline)))

abbrev pub verdict_line : Judgement (List ℕ) → List ℕ
verdict_line j = verdict_text j ++ newline

abbrev pub layer_name : Layer → List ℕ
layer_name layer.Reader = codes "reader"
layer_name layer.Policy = codes "policy"

abbrev pub fault_line : Stop → List ℕ
fault_line s =
    codes "fault " ++ (decimal (number s.refusal) ++ (codes " " ++ (layer_name s.layer ++ (codes " at " ++ (decimal s.offset ++ newline)))))

-- a report with no header has no first line
abbrev pub header_text : Option Header → List ℕ
header_text None = []
header_text (Some h) = header_line h

abbrev pub conclusion_text : Result Judged Stop → List ℕ
conclusion_text (Ok j) = counts_line j.held j.turned ++ verdict_line j.verdict
conclusion_text (Err s) = fault_line s

abbrev pub report_text : TrayReport → List ℕ
report_text r = header_text r.header ++ (flat_map refused_line r.refused.items ++ conclusion_text r.conclusion)
