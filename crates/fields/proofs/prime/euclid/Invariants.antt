use Rattle.std.proofs.Common.{◌≡◌, ◌*◌, ◌%◌, ◌<◌, ◌≤◌}
use Rattle.fields.specs.Remainders.{Commons}
use Rattle.fields.proofs.prime.euclid.Given as goal

abbrev pub invariant-loop-low : goal.invariant-loop-low
invariant-loop-low l =
    (0 < l.high) × (l.high ≤ l.m) × (l.low < l.high) × (l.factor < l.m) × (l.next < l.m)
    × ((l.a * l.factor) % l.m ≡ l.high % l.m) × ((l.a * l.next) % l.m ≡ l.low % l.m)
    × Commons l.high l.low l.m l.a

abbrev pub decreases-loop-low : goal.decreases-loop-low
decreases-loop-low l = l.low
