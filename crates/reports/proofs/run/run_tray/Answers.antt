use Rattle.std.proofs.Common.{◌≡◌, List, [], length, Some, refl, ap}
use Rattle.trays.specs.Fields.{field_number}
use Rattle.trays.specs.Layout.{Placed, Ending}
use Rattle.trays.specs.declared.field.TrayField.{TrayField}
use Rattle.trays.specs.declared.reader.TrayReader.{TrayReader}
use Rattle.reports.specs.Runs.{Concludes, Reports, arithmetic_of, opened, stopped_early, turned_by, turned_from}
use Rattle.reports.specs.Steps.{OpensAs}
use Rattle.reports.specs.declared.opening.Opening.{Opening}
use Rattle.reports.specs.declared.report.TrayReport.{TrayReport}
use Rattle.reports.proofs.run.run_tray.Goals as goal

-- a run over the field that the tray names
ran : {o : Opening} {t : TrayReader} {parts cards : List Placed} {e : Ending} {f : TrayField} {r : TrayReport} → o.field ≡ f → OpensAs o t parts e cards
    → r.header ≡ Some (record { field = field_number o.field; levels = length o.policy; words = o.words; cards = o.cards })
    → turned_by r.refused.items ≡ turned_from (arithmetic_of f) o.policy o.words [] cards
    → Concludes (arithmetic_of f) o.policy o.words cards e r.conclusion → Reports parts e r
ran {o} {cards} is found header refusals concludes =
    opened o.field o.policy o.words o.cards cards found.parts_are found.fits header (rw is refusals) (rw is concludes)

pub returns-in-Bytes : goal.returns-in-Bytes
returns-in-Bytes c parts e r =
    let found = c.in-Ok.ensures.parts parts e ((c.new-reader.ensures.starts parts e).1 r) in
    let run = c.run_cards.ensures in
    ran c.in-Bytes.is found.1 run.header (run.refusals found.0 e found.1.left) (run.concludes found.0 e found.1.left)

pub returns-in-Wide : goal.returns-in-Wide
returns-in-Wide c parts e r =
    let found = c.in-Ok.ensures.parts parts e ((c.new-reader.ensures.starts parts e).1 r) in
    let run = c.run_cards-in-Wide.ensures in
    ran c.in-Wide.is found.1 run.header (run.refusals found.0 e found.1.left) (run.concludes found.0 e found.1.left)

pub returns-in-Err : goal.returns-in-Err
returns-in-Err c parts e r =
    stopped_early c.in-Err.stop (c.in-Err.ensures.parts parts e ((c.new-reader.ensures.starts parts e).1 r)) refl (ap turned_by c.new.ensures) refl
