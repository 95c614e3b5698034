use Rattle.std.proofs.Common.{◌≡◌, ◌-◌, ◌≤◌, false, get_or}
use Rattle.sharing.specs.Refusals.{somewhere, misplaced}
use Rattle.sharing.proofs.policy.Policy.new.Given as goal

abbrev pub invariant-loop-threshold : goal.invariant-loop-threshold
invariant-loop-threshold l = record {
  in_order : somewhere l.threshold-index (misplaced l.levels) ≡ false;
  before : 1 ≤ l.threshold-index → l.last ≡ get_or l.levels (l.threshold-index - 1) 0;
  start : l.threshold-index ≡ 0 → l.last ≡ 0;
}
