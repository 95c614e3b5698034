use Rattle.std.proofs.Common.{◌≡◌, None}
use Rattle.sharing.specs.Cards.{Card}
use Rattle.pools.specs.Sessions.{CardList, present, refuses_card}
use Rattle.pools.proofs.Orderly.{stays}
use Rattle.pools.proofs.pool.Pool.present.Goals as goal

pub invariant_of-self : goal.invariant_of-self
invariant_of-self g c =
    let pool = c.self.inside in
    let F = g.F.Field.arithmetic pool.field in
    let s : CardList = record { held = pool.cards.items; turned = pool.turned } in
    let card : Card = record { level = c.args.level; id = c.args.id; values = c.args.values.now } in
    let accepted : None ≡ refuses_card F pool.policy pool.words pool.cards.items card = rw (← c.self.view_is) at c.in-Ok.ensures.answer in
    let stayed = rw (← accepted) at (stays F pool.policy pool.words s c.self.invariant (present card)) in
    rw (c.push.ensures.items, c.in-Ok.ensures.card) stayed
