-- Numbers read as elements: what the contracts say of numbers is what the theory says of codes.
--   read, numbers, read_numbers    values of numbers as an assignment of codes, and back
--   size_positive         a field has an element
--   row_of, slot_of, basis_of    an equation, an optional one and the rows of an echelon, read
--   el_rem, el_number_rem, el_is    a number and its remainder, as codes
--   el_sum, el_dot        sums and products of numbers, read
--   sum_below             a sum is an element
--   reads_zero, zero_read    a number is read as zero just if its remainder is zero
--   satisfies_to, satisfies_from, solves_to, solves_from, echelon_to, echelon_from    each relation of numbers and the same of codes
-- Assumes nothing.
use Rattle.std.proofs.Common.{◌≡◌, ℕ, zero, suc, ◌%◌, ◌<◌, List, get_or, Some, None, Option, sym, refl, ap, ◌∙◌, subst, mod-lt, mod-eq_of_lt, arith}
use mathlib.Core.Path.{fun_ext}
use Rattle.fields.specs.Arithmetic.{Arithmetic, Laws}
use Rattle.fields.specs.Sums as sums
use Rattle.linear.specs.declared.equation.Equation.{Equation}
use Rattle.linear.specs.Solutions.{Values, entry, Satisfies}
use Rattle.linear.specs.Solutions as number
use Rattle.linear.specs.Rows.{Leads, InEchelonForm, Meets, Solves}
use Rattle.linear.proofs.Fields.{sum, dot}
use Rattle.linear.proofs.Systems.{Row, Assignment, Basis, Echelon}
use Rattle.linear.proofs.Systems as theory
use Rattle.linear.proofs.Codes.{Code, el, el_of, el_number, el_add, el_mul, el_zero, el_one, code_path, field_of}

module _ (F : Arithmetic) (L : Laws F) where
  abbrev pub read : Values → Assignment (Code F)
  read x j k = el F L (x j k)

  abbrev pub numbers : Assignment (Code F) → Values
  numbers y j k = (y j k).0

  pub read_numbers : (y : Assignment (Code F)) → read (numbers y) ≡ y
  read_numbers y = fun_ext (λ j. fun_ext (λ k. el_of F L (y j k)))

  abbrev pub row_of : Equation → Row (Code F)
  row_of e = record { coef = λ k. el F L (entry e.coefficients k); rhs = λ j. el F L (entry e.right_sides j) }

  abbrev pub slot_of : Option Equation → Option (Row (Code F))
  slot_of None = None
  slot_of (Some e) = Some (row_of e)

  abbrev pub basis_of : List (Option Equation) → Basis (Code F)
  basis_of rows p = slot_of (get_or rows p None)

  pub size_positive : 0 < F.size
  size_positive = omega (arith, L.two_elements)

  pub el_rem : (n : ℕ) → el F L (n % F.size) ≡ el F L n
  unfolding el
  el_rem n = code_path F L _ _ (mod-eq_of_lt (mod-lt n {m = F.size} size_positive))

  pub el_number_rem : (n : ℕ) → (el F L n).0 ≡ n % F.size
  unfolding el
  el_number_rem n = refl

  -- a number and an element, read alike
  pub el_is : (m n : ℕ) → m < F.size → el F L m ≡ el F L n → m ≡ n % F.size
  el_is m n l e = sym (el_number F L m l) ∙ ap (λ (c : Code F). c.0) e ∙ el_number_rem n

  pub el_sum : (n : ℕ) (f : ℕ → ℕ) → el F L (sums.sum F n f) ≡ sum (field_of F L) n (λ k. el F L (f k))
  el_sum zero f = el_zero F L
  el_sum (suc n) f = el_add F L _ _ ∙ ap (λ s. (field_of F L).add s (el F L (f n))) (el_sum n f)

  pub sum_below : (n : ℕ) (f : ℕ → ℕ) → sums.sum F n f < F.size
  sum_below zero f = size_positive
  sum_below (suc n) f = L.add_below _ _

  pub el_dot : (t : ℕ) (a x : ℕ → ℕ) → el F L (number.dot F t a x) ≡ dot (field_of F L) t (λ k. el F L (a k)) (λ k. el F L (x k))
  unfolding dot
  el_dot t a x = el_sum t _ ∙ ap (sum (field_of F L) t) (fun_ext (λ k. el_mul F L (a k) (x k)))

  module _ (t w : ℕ) where
    pub satisfies_to : (e : Equation) (x : Values) → Satisfies F t w e x → theory.Satisfies (field_of F L) t w (row_of e) (read x)
    satisfies_to e x h j l = sym (el_dot t (entry e.coefficients) (x j)) ∙ ap (el F L) (h j l) ∙ el_rem _

    pub satisfies_from : (e : Equation) (x : Values) → theory.Satisfies (field_of F L) t w (row_of e) (read x) → Satisfies F t w e x
    satisfies_from e x h j l = el_is _ _ (sum_below t _) (el_dot t (entry e.coefficients) (x j) ∙ h j l)

    meets_to : (o : Option Equation) (x : Values) → Meets F t w o x → theory.Meets (field_of F L) t w (slot_of o) (read x)
    meets_to None x h = tt
    meets_to (Some e) x h = satisfies_to e x h

    meets_from : (o : Option Equation) (x : Values) → theory.Meets (field_of F L) t w (slot_of o) (read x) → Meets F t w o x
    meets_from None x h = tt
    meets_from (Some e) x h = satisfies_from e x h

    pub solves_to : (rows : List (Option Equation)) (x : Values) → Solves F t w rows x → theory.Solves (field_of F L) t w (basis_of rows) (read x)
    solves_to rows x h p l = meets_to (get_or rows p None) x (h p l)

    pub solves_from : (rows : List (Option Equation)) (x : Values) → theory.Solves (field_of F L) t w (basis_of rows) (read x) → Solves F t w rows x
    solves_from rows x h p l = meets_from (get_or rows p None) x (h p l)

  pub reads_zero : (n : ℕ) → n % F.size ≡ 0 → el F L n ≡ (field_of F L).zero
  reads_zero n e = sym (el_rem n) ∙ ap (el F L) e ∙ el_zero F L

  pub zero_read : (n : ℕ) → el F L n ≡ (field_of F L).zero → n % F.size ≡ 0
  zero_read n e = sym (el_is 0 n size_positive (el_zero F L ∙ sym e))

  reads_one : (n : ℕ) → n % F.size ≡ 1 → el F L n ≡ (field_of F L).one
  reads_one n e = sym (el_rem n) ∙ ap (el F L) e ∙ el_one F L

  one_read : (n : ℕ) → el F L n ≡ (field_of F L).one → n % F.size ≡ 1
  one_read n e = sym (el_is 1 n (omega (arith, L.two_elements)) (el_one F L ∙ sym e))

  leads_to : (p : ℕ) (o : Option Equation) → ((e : Equation) → o ≡ Some e → Leads F p e) → theory.Leads (field_of F L) p (slot_of o)
  leads_to p None h = tt
  leads_to p (Some e) h = let lead = h e refl in (reads_one _ lead.0, λ k l. reads_zero _ (lead.1 k l))

  leads_from : (p : ℕ) (e : Equation) (o : Option Equation) → o ≡ Some e → theory.Leads (field_of F L) p (slot_of o) → Leads F p e
  leads_from p e o is h =
      let lead : theory.Leads (field_of F L) p (Some (row_of e)) = subst (λ s. theory.Leads (field_of F L) p (slot_of s)) is h in
      (one_read _ lead.0, λ k l. zero_read _ (lead.1 k l))

  pub echelon_to : (t w : ℕ) (rows : List (Option Equation)) → InEchelonForm F t rows → Echelon (field_of F L) t w (basis_of rows)
  echelon_to t w rows h p l = leads_to p (get_or rows p None) (λ e is. h p e l is)

  pub echelon_from : (t w : ℕ) (rows : List (Option Equation)) → Echelon (field_of F L) t w (basis_of rows) → InEchelonForm F t rows
  echelon_from t w rows h p e l is = leads_from p e (get_or rows p None) is (h p l)
