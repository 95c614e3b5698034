use Rattle.std.proofs.Common.{◌≡◌, ℕ, ◌+◌, ◌-◌, ◌≤◌, true, false, ◌||◌, eqb, ltb, List, ◌++◌, length, take, drop, replicate, get_or, ap, ◌∙◌, arith, false-eqb, length-append}
use Rattle.std.proofs.lemmas.List.{drop-replicate, length-replicate}
use Rattle.std.proofs.Math.Seq.{take-append_seam, drop-append_seam}
use Rattle.sharing.specs.Refusals.{disordered, somewhere, misplaced}
use Rattle.sharing.proofs.Firsts.{right_count}
use Rattle.sharing.proofs.Rising.{placed_next, misplaced_here}
use Rattle.sharing.proofs.policy.Policy.new.Goals as goal
use Rattle.sharing.proofs.policy.Policy.new.Goals.{then-threshold-last-via-then-threshold-last, then-threshold-last-via-else-threshold-last+then-threshold-gt-LARGEST_THRESHOLD}

pub returns-then-threshold-last-clause-answer : goal.returns-then-threshold-last-clause-answer
returns-then-threshold-last-clause-answer c =
    let ts = c.args.levels.now in
    let few : (eqb (length ts) 0 || ltb 8 (length ts)) ≡ false =
    right_count (length ts) 8 (false-eqb (length ts) 0 c.if-is_empty.ensures) c.if-levels-gt-MOST_LEVELS.false in
    let i = c.loop-threshold.threshold-index in
    let inv = c.loop-threshold.invariant in
    let wrong : disordered ts ≡ true =
    elim c.then-threshold-last.branch [
      | then-threshold-last-via-then-threshold-last w ↦
          misplaced_here ts i c.loop-threshold.last c.loop-threshold-test.true inv.before inv.start (λ a b. omega (arith, w.if-threshold-last.true))
      | then-threshold-last-via-else-threshold-last+then-threshold-gt-LARGEST_THRESHOLD w ↦
          misplaced_here ts i c.loop-threshold.last c.loop-threshold-test.true inv.before inv.start (λ a b. omega (arith, w.if-threshold-gt-LARGEST_THRESHOLD.true))
    ] in
    rw (few, wrong)

pub loop-threshold-preserved : goal.loop-threshold-preserved
loop-threshold-preserved c =
    let ts = c.args.levels.now in
    let i = c.loop-threshold.threshold-index in
    let inv = c.loop-threshold.invariant in
    let same : i ≡ i + 1 - 1 = omega arith in
    record {
      in_order = placed_next ts i c.loop-threshold.last inv.in_order inv.before c.if-threshold-last.false c.if-threshold-gt-LARGEST_THRESHOLD.false;
      before = λ l. ap (λ k. get_or ts k 0) same;
      start = λ z. absurd (omega arith);
    }

-- thresholds at the front of eight zeros
in_front : (xs ys : List ℕ) → 1 ≤ length xs → length xs ≤ 8 → disordered xs ≡ false → ys ≡ xs
    → (length (ys ++ drop (length xs) (replicate 8 0)) ≡ 8)
    × (1 ≤ length xs) × (length xs ≤ 8)
    × (disordered (take (length xs) (ys ++ drop (length xs) (replicate 8 0))) ≡ false)
    × (drop (length xs) (ys ++ drop (length xs) (replicate 8 0)) ≡ replicate (8 - length xs) 0)
in_front xs ys some few ordered e = rw e (
  omega (arith, length-append xs (drop (length xs) (replicate 8 0)), ap length (drop-replicate {X = ℕ} (length xs) 8 0), length-replicate {A = ℕ} (8 - length xs) 0),
  some,
  few,
  rw take-append_seam ordered,
  drop-append_seam xs (drop (length xs) (replicate 8 0)) ∙ drop-replicate (length xs) 8 0,
)

pub invariant_of-result : goal.invariant_of-result
invariant_of-result c =
    let ts = c.args.levels.now in
    let last : length ts ≡ c.loop-threshold.threshold-index = omega arith in
    let some : (length ts ≡ 0 → ⊥) = false-eqb (length ts) 0 c.if-is_empty.ensures in
    in_front ts c.copy_from_slice.new.self (omega (arith, some)) c.if-levels-gt-MOST_LEVELS.false
    (ap (λ n. somewhere n (misplaced ts)) last ∙ c.loop-threshold.invariant.in_order)
    c.copy_from_slice.ensures.after
