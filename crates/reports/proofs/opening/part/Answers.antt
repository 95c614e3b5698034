use Rattle.std.proofs.Common.{Ok, sym, ap, ◌∙◌}
use Rattle.trays.specs.Answers.{answer}
use Rattle.trays.proofs.Orders.{reader_one_way}
use Rattle.reports.proofs.Openings.{nothing}
use Rattle.reports.proofs.opening.part.Goals as goal

pub unreachable-requires : goal.unreachable-requires
unreachable-requires c =
    let all = reader_one_way c.args.reader.now in
    let ended = ap (λ o. answer (Ok o)) (nothing c.in_ok-item.field-0 c.in_default.not-Some) in
    c.requires all.0 all.1 all.2 (sym (c.in_ok-item.ensures.reads all.0 all.1 all.2).0 ∙ ended)
