use Rattle.std.proofs.Common.{◌≡◌, ◌+◌, [], ◌∷◌, ◌++◌, take, ap, ◌∙◌, arith}
use Rattle.std.proofs.lemmas.Grind.{common_steps}
use Rattle.pools.proofs.Holding.{say_push}
use Rattle.pools.proofs.pool.Pool.equations.Goals as goal

pub loop-card-preserved : goal.loop-card-preserved
loop-card-preserved g c =
    let pool = c.args.self.now in
    let held = pool.list.held in
    let i = c.loop-card.card-index in
    let card = c.card-item.result in
    let inv = c.loop-card.invariant in
    let seen : c.as_slice-card-items.result.now ≡ held = c.as_slice-card-items.ensures.value ∙ ap (λ s. s.list.held) c.self.view_is in
    let more : take (i + 1) held ≡ take i held ++ card ∷ [] = grind (arith, common_steps) in
    record {
      as_many = omega arith;
      each = rw (more, c.push.ensures.items)
          (say_push (g.F.Field.arithmetic pool.field) pool.policy pool.words (take i held) c.loop-card.equations.items card c.equation.result inv.each c.equation.ensures);
    }
