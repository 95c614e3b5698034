use Rattle.std.proofs.Common.{◌≡◌, ℕ, ◌≤◌, ◌<◌, get_or}
use Rattle.linear.proofs.numbers.rewrite.Given as goal

-- the places up to k hold what the step gave, the others are as they were
abbrev pub invariant-loop-k : goal.invariant-loop-k
invariant-loop-k g l =
    ((j : ℕ) → j < l.k → goal.S-post g l.step j (get_or l.initial.numbers j 0) (get_or l.numbers j 0))
    × ((j : ℕ) → l.k ≤ j → get_or l.numbers j 0 ≡ get_or l.initial.numbers j 0)
