-- The worked examples, by computing.
--   found              the decision that the theory works out over the wide field
--   found_right        it is right
--   worked_examples    the decisions of the examples
-- Assumes nothing.
use Rattle.std.proofs.Common.{◌≡◌, List, refl, subst, arith}
use native.Mathlib.Decide.{ℕ_discrete, dec_lt}
use Rattle.fields.specs.Modulo.{wide}
use Rattle.fields.specs.ModuloLemmas.{wide_lawful, laws_modulo}
use Rattle.linear.specs.declared.equation.Equation.{Equation}
use Rattle.linear.specs.declared.equation.Form.{Form}
use Rattle.linear.specs.declared.decide.Decision.{Decision}
use Rattle.linear.specs.declared.decide.Decision.TheVariants.{Contradictory, Open, Decided}
use Rattle.linear.specs.Solutions.{Decides}
use Rattle.linear.specs.Examples.{form, values, doubled, clashing, square, WorkedExamples}
use Rattle.linear.proofs.Codes.{el, field_of}
use Rattle.linear.proofs.Substitution.{unit}
use Rattle.linear.proofs.Knowledge.{reduce, first, put, insert, run}
use Rattle.linear.proofs.Verdicts.{verdict}
use Rattle.linear.proofs.Decisions.{padded, decision}

unfoldable pub found : List Equation → Form → Decision
unfolding decision verdict run insert put first reduce unit el field_of padded wide_lawful laws_modulo ℕ_discrete dec_lt
found equations form = (decision wide wide_lawful 3 1 (omega arith) equations form).0

found_right : (equations : List Equation) (form : Form) (d : Decision) → found equations form ≡ d → Decides wide 3 1 equations form d
unfolding found
found_right equations form d e = subst (Decides wide 3 1 equations form) e (decision wide wide_lawful 3 1 (omega arith) equations form).1

pub worked_examples : WorkedExamples
unfolding found
worked_examples = record {
  redundant = found_right doubled (form 0 0 1) Open refl;
  multiple = found_right doubled (form 3 6 9) (Decided (values 18)) refl;
  contradictory = found_right clashing (form 0 0 1) Contradictory refl;
  decided = found_right square (form 1 10 100) (Decided (values 321)) refl;
}
