use Rattle.std.proofs.Common.{◌<◌, ◌≤◌, arith}
use Rattle.sharing.specs.Cards.{top}
use Rattle.pools.specs.Sessions.{Accepted}
use Rattle.pools.proofs.Agreement.{every_map, Fits}
use Rattle.pools.proofs.Holding.{judged, padded}
use Rattle.pools.proofs.pool.Pool.decision.Goals as goal

pub returns : goal.returns
returns g c =
    let pool = c.self.inside in
    let F = g.F.Field.arithmetic pool.field in
    let L = g.met.F.Field.lawful pool.field in
    let ts = pool.policy in
    let w = pool.words in
    let held = pool.cards.items in
    let es = c.equations-equations.result.items in
    let form = c.key_form-form.result in
    let d = c.decide.result in
    let fit = every_map (Accepted F ts w) (Fits F w) held (λ c a. a.elements) c.self.invariant.accepted in
    let says = rw (← c.self.view_is) at c.equations-equations.ensures in
    let key = rw c.top-top.ensures.last at c.key_form-form.ensures in
    let decides = rw (c.deref.ensures.0, c.in-Some.ensures.0, c.in-Some.ensures.1, c.top-top.ensures.last, c.get.ensures.words) at c.decide.ensures.right in
    let some : 0 < w = omega arith in
    let few : w ≤ 16 = omega arith in
    rw (← c.self.view_is) (record { right = judged F L ts w held es form says fit key some few d decides; padded = padded F (top ts) w es form few d decides })
