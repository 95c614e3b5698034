-- The steps of the code are those of the theory.
--   cleared               clearing a column takes off a multiple of the pivot row
--   scaled                scaling a row is a multiple of it, where its places before the column hold zeros
--   no_inverse            a number without an inverse is read as zero
--   all_zero, not_zero    what the test for zeros tells
--   TrimmedTo, ReducedTo  the row is the equation's, made zero before a column; or cleared at those that have a row
--   joined                rows stand for the equation too
--   slot                  what stands at a column of the rows
--   trimmed_passed, trimmed_cleared, reduced_passed, reduced_cleared    what one column does to the row
--   echelon_stored, joined_stored    a row that is stored leaves rows in echelon form, which stand for the equation too
--   joined_redundant, clashes, leaves    what an insertion leaves where nothing is left of the row
-- Assumes nothing.
use Rattle.std.proofs.Common.{◌≡◌, ℕ, ◌+◌, ◌%◌, ◌<◌, ◌≤◌, true, false, ◌≢◌, ◌↔◌, List, length, get_or, set, take, Some, None, Option, Ok, Err, Result, sym, ap, ◌∙◌, subst, mod-lt, arith, get_or-set_other, get_or-set_same}
use native.Mathlib.Decide.{dec_lt, ℕ_discrete}
use Rattle.std.proofs.lemmas.List.{get_or_read, get_or-take, length-take}
use Rattle.fields.specs.Arithmetic.{Arithmetic, Laws}
use Rattle.linear.specs.declared.equation.Equation.{Equation}
use Rattle.linear.specs.declared.system.Contradiction.{Contradiction}
use Rattle.linear.specs.Solutions.{entry}
use Rattle.linear.specs.Rows.{Cleared, Scaled, Zeros, InEchelonForm, Leftover, Joined, Clash, Inserts}
use Rattle.linear.proofs.Systems as theory
use Rattle.linear.proofs.Reduction.{Less, Times, Trimmed, Reduced, Put}
use Rattle.linear.proofs.Values.{neg_mul, mul_zero, neg_zero}
use Rattle.linear.proofs.Elimination.{redundant, contradiction, stored, trimmed_skip, trimmed_step, reduced_skip, reduced_step}
use Rattle.linear.proofs.Codes.{Code, el, el_add, el_neg, el_mul, el_zero, el_one, el_same, field_of}
use Rattle.linear.proofs.Reading.{read, row_of, slot_of, basis_of, el_rem, reads_zero, satisfies_to, satisfies_from, solves_to, solves_from, echelon_to, echelon_from, size_positive}

module _ (F : Arithmetic) (L : Laws F) where
  -- one number of a row operation
  plus_read : (a b c : ℕ) → el F L (F.add a (F.mul (F.neg c) b)) ≡ (field_of F L).add (el F L a) ((field_of F L).neg ((field_of F L).mul (el F L c) (el F L b)))
  plus_read a b c =
      el_add F L a _ ∙ ap ((field_of F L).add (el F L a)) (el_mul F L _ b ∙ ap (λ n. (field_of F L).mul n (el F L b)) (el_neg F L c) ∙ neg_mul (field_of F L) (el F L c) (el F L b))

  module _ (t w p : ℕ) (row after : Equation) where
    pub cleared : (pivot : Equation) → theory.Leads (field_of F L) p (Some (row_of F L pivot)) → Cleared F t w p pivot row after
        → Less (field_of F L) t w (row_of F L row) ((row_of F L row).coef p) (row_of F L pivot) (row_of F L after)
    cleared pivot lead c = record {
      coefs = λ k m. elim (dec_lt k p) [
        | yes l ↦ ap (el F L) (c.left.below k l) ∙ sym (simp (lead.1 k l, mul_zero (field_of F L), neg_zero (field_of F L), (field_of F L).add_zero))
        | no d ↦ ap (el F L) (c.left.inside k (omega arith) m) ∙ plus_read _ _ _
      ];
      rhss = λ j m. ap (el F L) (c.right.inside j (omega arith) m) ∙ plus_read _ _ _;
    }

    pub scaled : (factor : ℕ) → ((k : ℕ) → k < p → (row_of F L row).coef k ≡ (field_of F L).zero) → Scaled F t w p factor row after
        → Times (field_of F L) t w (el F L factor) (row_of F L row) (row_of F L after)
    scaled factor low s = record {
      coefs = λ k m. elim (dec_lt k p) [
        | yes l ↦ ap (el F L) (s.left.below k l) ∙ low k l ∙ sym (ap ((field_of F L).mul (el F L factor)) (low k l) ∙ mul_zero (field_of F L) _)
        | no d ↦ ap (el F L) (s.left.inside k (omega arith) m) ∙ el_mul F L _ _
      ];
      rhss = λ j m. ap (el F L) (s.right.inside j (omega arith) m) ∙ el_mul F L _ _;
    }

  pub no_inverse : (n : ℕ) → F.inv n ≡ None → el F L n ≡ (field_of F L).zero
  no_inverse n i =
      elim (ℕ_discrete (n % F.size) 0) [
        | yes e ↦ reads_zero F L n e
        | no d ↦
            let (b, is, one) = L.others_have_one (n % F.size) (mod-lt n {m = F.size} (size_positive F L)) d in
            let r = L.inv_reads n in
            let z : ◌≡◌ {A = ℕ} 0 1 = cc in
            absurd (omega arith)
      ]

  inverse_read : (n v : ℕ) → F.inv n ≡ Some v → (field_of F L).mul (el F L n) (el F L v) ≡ (field_of F L).one
  inverse_read n v i =
      elim (ℕ_discrete (n % F.size) 0) [
        | yes e ↦
            let r : F.inv n ≡ F.inv 0 = L.inv_reads n ∙ ap F.inv e in
            let none = L.zero_has_none in
            let z : ◌≡◌ {A = ℕ} 0 1 = cc in
            absurd (omega arith)
        | no d ↦
            let (b, is, one) = L.others_have_one (n % F.size) (mod-lt n {m = F.size} (size_positive F L)) d in
            let r = L.inv_reads n in
            let same : b ≡ v = cc in
            ap (λ c. (field_of F L).mul c (el F L v)) (sym (el_rem F L n)) ∙ sym (el_mul F L _ v) ∙ ap (el F L) (ap (F.mul _) (sym same) ∙ one) ∙ el_one F L
      ]

  added_zero : (n : ℕ) → el F L (F.add n 0) ≡ el F L n
  added_zero n = el_add F L n 0 ∙ ap ((field_of F L).add (el F L n)) (el_zero F L) ∙ (field_of F L).add_zero _

  pub all_zero : (to : ℕ) (xs : List ℕ) → Zeros F to xs true → (k : ℕ) → k < to → el F L (entry xs k) ≡ (field_of F L).zero
  all_zero to xs h k l = sym (added_zero _) ∙ ap (el F L) (h k l) ∙ el_zero F L

  pub not_zero : (n : ℕ) → (F.add n 0 ≡ 0 → ⊥) → el F L n ≢ (field_of F L).zero
  not_zero n d e = d (el_same F L _ 0 (L.add_below n 0) (size_positive F L) (added_zero n ∙ e ∙ sym (el_zero F L)))

  module _ (t w : ℕ) (rows : List (Option Equation)) (e : Equation) where
    abbrev pub TrimmedTo : ℕ → Equation → Type 0
    TrimmedTo p row = Trimmed (field_of F L) t w (basis_of F L rows) (row_of F L e) p (row_of F L row)

    abbrev pub ReducedTo : ℕ → Equation → Type 0
    ReducedTo p row = Reduced (field_of F L) t w (basis_of F L rows) (row_of F L e) p (row_of F L row)

    joined : (after : List (Option Equation))
        → ((y : theory.Assignment (Code F)) → theory.Solves (field_of F L) t w (basis_of F L after) y ↔ (theory.Solves (field_of F L) t w (basis_of F L rows) y × theory.Satisfies (field_of F L) t w (row_of F L e) y))
        → Joined F t w rows e after
    joined after same x = (
      (λ s. let both = (same (read F L x)).0 (solves_to F L t w after x s) in (solves_from F L t w rows x both.0, satisfies_from F L t w e x both.1)),
      λ s. solves_from F L t w after x ((same (read F L x)).1 (solves_to F L t w rows x s.0, satisfies_to F L t w e x s.1)),
    )

    -- what stands at a column of the rows is what was read there
    slot : (n p : ℕ) → p < length (take n rows) → (read : Option Equation) → read ≡ get_or (take n rows) p read → basis_of F L rows p ≡ slot_of F L read
    slot n p inside read is =
        let below : p < n = omega (arith, length-take n rows) in
        ap (slot_of F L) (sym (get_or-take n rows p None below) ∙ sym (get_or_read (take n rows) p read inside is None))

    pub reduced_passed : (row : Equation) (n p : ℕ) → p < length (take n rows) → (read : Option Equation) → read ≡ get_or (take n rows) p read → read ≡ None → ReducedTo p row → ReducedTo (p + 1) row
    reduced_passed row n p inside read is free h = reduced_skip (field_of F L) t w _ p (p + 1) (omega arith) (slot n p inside read is ∙ ap (slot_of F L) free) h

    pub trimmed_passed : (row : Equation) (p : ℕ) → F.inv (entry row.coefficients p) ≡ None → TrimmedTo p row → TrimmedTo (p + 1) row
    trimmed_passed row p none h = trimmed_skip (field_of F L) t w _ p (p + 1) (omega arith) (no_inverse _ none) h

    module _ (ech : InEchelonForm F t rows) (row : Equation) (p : ℕ) where
      module _ (n : ℕ) (is_t : n ≡ t) (inside : p < length (take n rows)) (read : Option Equation) (is : read ≡ get_or (take n rows) p read) where
        before_t : p < t
        before_t = omega (arith, length-take n rows)

        module _ (pivot after : Equation) (found : read ≡ Some pivot) (c : Cleared F t w p pivot row after) where
          here : basis_of F L rows p ≡ Some (row_of F L pivot)
          here = slot n p inside read is ∙ ap (slot_of F L) found

          lead : theory.Leads (field_of F L) p (Some (row_of F L pivot))
          lead = subst (theory.Leads (field_of F L) p) here (echelon_to F L t w rows ech p before_t)

          pub trimmed_cleared : TrimmedTo p row → TrimmedTo (p + 1) after
          trimmed_cleared h = trimmed_step (field_of F L) t w _ p (p + 1) (omega arith) before_t lead here (cleared t w p row after pivot lead c) h

          pub reduced_cleared : ReducedTo p row → ReducedTo (p + 1) after
          reduced_cleared h = reduced_step (field_of F L) t w _ p (p + 1) (omega arith) before_t lead here (cleared t w p row after pivot lead c) h

        module _ (free : read ≡ None) (v : ℕ) (inv : F.inv (entry row.coefficients p) ≡ Some v) (after : Equation) (s : Scaled F t w p v row after) (h : TrimmedTo p row) where
          put : Put (field_of F L) t w (basis_of F L rows) p (row_of F L after) (basis_of F L (set rows p (Some after)))
          put = record {
            here = ap (slot_of F L) (get_or-set_same rows p (Some after) None (omega (arith, length-take n rows)));
            elsewhere = λ q m d. ap (slot_of F L) (get_or-set_other rows p q (Some after) None d);
          }

          filled : theory.Echelon (field_of F L) t w (basis_of F L (set rows p (Some after)))
              × ((y : theory.Assignment (Code F)) → theory.Solves (field_of F L) t w (basis_of F L (set rows p (Some after))) y ↔ (theory.Solves (field_of F L) t w (basis_of F L rows) y × theory.Satisfies (field_of F L) t w (row_of F L e) y))
          filled = stored (field_of F L) t w (basis_of F L rows) (row_of F L e) (row_of F L row) p (el F L v) before_t (echelon_to F L t w rows ech) h.agree (slot n p inside read is ∙ ap (slot_of F L) free) h.low (inverse_read _ v inv) (scaled t w p row after v h.low s) put

          pub echelon_stored : InEchelonForm F t (set rows p (Some after))
          echelon_stored = echelon_from F L t w _ filled.0

          pub joined_stored : Joined F t w rows e (set rows p (Some after))
          joined_stored = joined _ filled.1

      module _ (done : t ≤ p) (h : TrimmedTo p row) where
        low : (k : ℕ) → k < t → (row_of F L row).coef k ≡ (field_of F L).zero
        low k l = h.low k (omega arith)

        joined_redundant : Zeros F w row.right_sides true → Joined F t w rows e rows
        joined_redundant z =
            joined rows (λ y. ((λ s. (s, redundant (field_of F L) t w _ (row_of F L e) (row_of F L row) h.agree low (all_zero w row.right_sides z) y s)), λ s. s.0))

        clashes : Zeros F w row.right_sides false → Clash F t w rows e
        clashes (j, l, d) x s m =
            contradiction (field_of F L) t w _ (row_of F L e) (row_of F L row) h.agree low j l (not_zero _ d) (read F L x) (solves_to F L t w rows x s) (satisfies_to F L t w e x m)

        pub leaves : (r : Result (Unit {0}) Contradiction) → Leftover F w row r → Inserts F t w rows e rows r
        leaves (Ok _) z = joined_redundant z
        leaves (Err _) z = clashes z
