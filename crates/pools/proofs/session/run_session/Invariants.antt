use Rattle.std.proofs.Common.{◌≡◌, drop}
use Rattle.pools.proofs.Running.{Running}
use Rattle.pools.proofs.session.run_session.Given as goal

abbrev pub invariant-loop-i : goal.invariant-loop-i
invariant-loop-i g l =
    Running g.F.Field.arithmetic l.initial.pool.field l.initial.pool.policy l.initial.pool.words l.requests l.replies l.i l.pool
    × (drop l.i l.replies ≡ drop l.i l.initial.replies)
