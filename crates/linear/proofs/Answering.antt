-- What a reduced form tells.
--   entry_zeros           an array of zeros holds 0 at every place
--   asks                  the row of a form asks for the form's value
--   form_open             something is left of it: every value is possible
--   form_decided          nothing is left: the values are the negated right sides
--   tells                 the decision that the row tells is right
-- Assumes nothing.
use Rattle.std.proofs.Common.{◌≡◌, ℕ, zero, suc, ◌≤◌, false, List, replicate, Option, sym, refl, ap, ◌∙◌, arith}
use Rattle.fields.specs.Arithmetic.{Arithmetic, Laws}
use Rattle.linear.specs.declared.equation.Equation.{Equation}
use Rattle.linear.specs.declared.equation.Form.{Form}
use Rattle.linear.specs.declared.decide.Decision.{Decision}
use Rattle.linear.specs.declared.decide.Decision.TheVariants.{Contradictory, Open, Decided}
use Rattle.linear.specs.Solutions.{entry, EveryValuePossible, OneValue, Decides}
use Rattle.linear.specs.Rows.{Zeros, Negation, Reading, InEchelonForm, Stands}
use Rattle.linear.proofs.Systems as theory
use Rattle.linear.proofs.Reduction.{Knows, Asks}
use Rattle.linear.proofs.Verdicts.{knows_decided, knows_undecided}
use Rattle.linear.proofs.Codes.{Code, el, el_neg, el_number, el_zero, field_of}
use Rattle.linear.proofs.Reading.{row_of, basis_of, solves_to, solves_from, echelon_to}
use Rattle.linear.proofs.Steps.{ReducedTo, all_zero, not_zero}
use Rattle.linear.proofs.Decisions.{Reads, every_value, one_value}

entry_zeros : (n j : ℕ) → entry (replicate n 0) j ≡ 0
entry_zeros zero j = refl
entry_zeros (suc n) zero = refl
entry_zeros (suc n) (suc j) = entry_zeros n j

module _ (F : Arithmetic) (L : Laws F) (t w : ℕ) (rows : List (Option Equation)) (form : Form) (asked row : Equation)
    (left : asked.coefficients ≡ form.coefficients) (right : asked.right_sides ≡ replicate 16 0) (p : ℕ) (done : t ≤ p)
    (h : ReducedTo F L t w rows asked p row)
    (ech : InEchelonForm F t rows) (equations : List Equation) (stands : Stands F t w equations rows) where
  asks : Asks (field_of F L) t w (λ k. el F L (entry form.coefficients k)) (row_of F L asked)
  asks = record {
    coefs = λ k l. ap (λ xs. el F L (entry xs k)) left;
    rhss = λ j l. ap (λ xs. el F L (entry xs j)) right ∙ ap (el F L) (entry_zeros 16 j) ∙ el_zero F L;
  }

  reduced : ReducedTo F L t w rows asked t row
  reduced = record { agree = h.agree; clear = λ k l. h.clear k (omega arith) }

  known : Knows (field_of F L) t w (theory.Solves (field_of F L) t w (basis_of F L rows)) (basis_of F L rows)
  known = record { echelon = echelon_to F L t w rows ech; same = λ y. ((λ s. s), λ s. s) }

  reads : Reads F L t w equations (theory.Solves (field_of F L) t w (basis_of F L rows))
  reads x = ((λ s. (stands x).0 (solves_from F L t w rows x s)), λ s. solves_to F L t w rows x ((stands x).1 s))

  form_open : Zeros F t row.coefficients false → EveryValuePossible F t w equations form
  form_open (k, l, d) = every_value F L t w equations _ reads form (knows_undecided (field_of F L) t w _ _ known _ _ reduced asks k l (not_zero F L _ d))

  form_decided : ((j : ℕ) → w ≤ j → entry row.right_sides j ≡ 0) → (values : List ℕ) → Negation F t w row values → OneValue F t w equations form values
  form_decided past values h =
      one_value F L t w equations _ reads form (λ j. (field_of F L).neg ((row_of F L row).rhs j)) values h.full
      (λ j l. h.negates.inside j (omega arith) l ∙ sym (el_number F L _ (L.neg_below _)) ∙ ap (λ (c : Code F). c.0) (el_neg F L _))
      (λ j l. h.negates.above j l ∙ past j l)
      (knows_decided (field_of F L) t w _ _ known _ _ reduced asks (all_zero F L t row.coefficients h.nothing_left))

  pub tells : ((j : ℕ) → w ≤ j → entry row.right_sides j ≡ 0) → (d : Decision) → Reading F t w row d → Decides F t w equations form d
  tells past Contradictory h = absurd h
  tells past Open h = form_open h
  tells past (Decided values) h = form_decided past values h
