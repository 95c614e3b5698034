use Rattle.std.proofs.Common.{◌+◌, refl, ap, ◌∙◌}
use Rattle.std.proofs.lemmas.List.{append-nil, map_push}
use Rattle.pools.specs.Sessions.{refuses_card}
use Rattle.reports.proofs.Cards.{presented_is, told_refused, told_held}
use Rattle.reports.proofs.session.Session.present.Goals as goal

pub returns-in-Err-clause-refusals : goal.returns-in-Err-clause-refusals
returns-in-Err-clause-refusals g c =
    let pool = c.args.self.now.pool in
    let refuses = refuses_card (g.F.Field.arithmetic pool.field) pool.policy pool.words pool.list.held in
    let is = presented_is (c.get-words.ensures.words ∙ c.words.ensures) c.in-Some.ensures in
    let why = told_refused (c.args.index + 1) c.args.offset c.in-Err.refusal c.in-Err.ensures.answer (ap refuses is) in
    rw (c.push.ensures.items, map_push, why) refl

pub returns-in_default-presented-clause-refusals : goal.returns-in_default-presented-clause-refusals
returns-in_default-presented-clause-refusals g c =
    let pool = c.args.self.now.pool in
    let refuses = refuses_card (g.F.Field.arithmetic pool.field) pool.policy pool.words pool.list.held in
    let is = presented_is (c.get-words.ensures.words ∙ c.words.ensures) c.in-Some.ensures in
    let why = told_held (c.args.index + 1) c.args.offset c.in_default-presented.ensures.answer (ap refuses is) in
    rw (why, append-nil) refl
