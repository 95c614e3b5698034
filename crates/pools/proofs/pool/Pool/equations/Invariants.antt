use Rattle.std.proofs.Common.{◌≡◌, length, take}
use Rattle.pools.specs.Equations.{AllSay}
use Rattle.pools.proofs.pool.Pool.equations.Given as goal

abbrev pub invariant-loop-card : goal.invariant-loop-card
invariant-loop-card g l = record {
  as_many : length l.equations.items ≡ l.card-index;
  each : AllSay (g.F.Field.arithmetic l.self.field) l.self.policy l.self.words (take l.card-index l.self.list.held) l.equations.items;
}
