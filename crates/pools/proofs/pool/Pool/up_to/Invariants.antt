use Rattle.std.proofs.Common.{◌≡◌, ◌≤◌, leb, length, take, filter}
use Rattle.pools.proofs.pool.Pool.up_to.Given as goal

-- those so far of the level or a lower one are counted, and there are no more than cards
abbrev pub invariant-loop-card : goal.invariant-loop-card
invariant-loop-card g l =
    (l.cards ≡ length (filter (λ c. leb c.level l.level) (take l.card-index l.self.list.held))) × (l.cards ≤ l.card-index)
