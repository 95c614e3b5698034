use Rattle.std.proofs.Common.{ℕ, ◌<◌, ◌≤◌, get_or}
use Rattle.pools.specs.Sessions.{up_to}
use Rattle.pools.proofs.pool.Pool.meets_policy.Given as goal

-- no level so far has enough cards
abbrev pub invariant-loop-level : goal.invariant-loop-level
invariant-loop-level g l =
    (L : ℕ) → L < l.level
    → get_or l.self.policy L 0 ≤ up_to (g.F.Field.arithmetic l.self.field) l.self.policy l.self.words L l.self.list.held
    → ⊥
