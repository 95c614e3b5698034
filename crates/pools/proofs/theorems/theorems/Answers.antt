use Rattle.pools.proofs.Derivatives.{cards_carry_derivatives}
use Rattle.pools.proofs.OneRun.{one_run_is_right}
use Rattle.pools.proofs.OneVerdict.{one_verdict_is_right}
use Rattle.pools.proofs.Orderly.{held_cards_are_orderly}
use Rattle.pools.proofs.theorems.theorems.Goals as goal

-- tried as an attribute of the function: two of the four clauses stay open
pub returns : goal.returns
returns c = record {
  one_verdict = one_verdict_is_right;
  one_run = one_run_is_right;
  orderly = held_cards_are_orderly;
  derivatives = cards_carry_derivatives;
}
