-- From what the theory says of codes to what the statement says of numbers, and the theorems.
--   Reads                 an assignment of codes meets a condition just if its numbers satisfy the equations
--   no_solution, every_value, one_value    the three claims of the theory, as those of the statement
--   decision_of, means_decides    a verdict of the theory as a decision, which claims the same
--   decides_unique        no two decisions are right
--   decides_order         what is right for a list is right for every list with the same equations
--   promised              a decision that is right keeps the whole promise
--   padded                the first numbers that a function gives, as an array, and 0 past them
--   decision              the decision that the theory works out, with the proof that it is right
--   one_decision          of any equations and any form one decision is right, and no other
-- Assumes nothing.
use Rattle.std.proofs.Common.{◌≡◌, ℕ, ◌<◌, ◌≤◌, ◌↔◌, List, [], ◌∷◌, map, length, sym, refl, ap, ◌∙◌, subst, ⊎_elim, arith, ext_get_or}
use mathlib.Core.List.Memᴰ
use Rattle.std.specs.List.{range_with_len}
use Rattle.std.proofs.lemmas.List.{get_or_past}
use Rattle.std.proofs.lemmas.List.FromFn.{length-map-range_with_len, get_or-map-range_with_len}
use native.Mathlib.Decide.{dec_lt}
use Rattle.fields.specs.Arithmetic.{Arithmetic, Laws}
use Rattle.linear.specs.declared.equation.Equation.{Equation}
use Rattle.linear.specs.declared.equation.Form.{Form}
use Rattle.linear.specs.declared.decide.Decision.{Decision}
use Rattle.linear.specs.declared.decide.Decision.TheVariants.{Contradictory, Open, Decided}
use Rattle.linear.specs.Solutions.{Values, entry, Satisfies, Solution, NoSolution, EveryValuePossible, OneValue, Decides, SameMembers, OneDecision}
use Rattle.linear.specs.Rows.{AllSatisfied, Promise}
use Rattle.linear.proofs.Fields.{dot}
use Rattle.linear.proofs.Systems.{Assignment, AllHold, Means, Verdict}
use Rattle.linear.proofs.Systems as theory
use Rattle.linear.proofs.Codes.{Code, el, el_number, el_same, field_of}
use Rattle.linear.proofs.Reading.{read, numbers, read_numbers, row_of, el_dot, sum_below, satisfies_to, satisfies_from, size_positive}
use Rattle.linear.proofs.Verdicts.{verdict}

module _ (F : Arithmetic) (L : Laws F) (t w : ℕ) (equations : List Equation) where
  abbrev pub Reads : (Assignment (Code F) → Type 0) → Type 0
  Reads P = (x : Values) → P (read F L x) ↔ AllSatisfied F t w equations x

  module _ (P : Assignment (Code F) → Type 0) (same : Reads P) where
    solution : (y : Assignment (Code F)) → P y → Solution F t w equations (numbers F L y)
    solution y p = record {
      elements = λ j k l m. (y j k).1;
      satisfies = (same (numbers F L y)).0 (subst P (sym (read_numbers F L y)) p);
    }

    holds : (x : Values) → Solution F t w equations x → P (read F L x)
    holds x s = (same x).1 s.satisfies

    pub no_solution : ((y : Assignment (Code F)) → P y → ⊥) → NoSolution F t w equations
    no_solution never x s = never (read F L x) (holds x s)

    module _ (form : Form) where
      abbrev coefficients : ℕ → Code F
      coefficients k = el F L (entry form.coefficients k)

      pub every_value : Means (field_of F L) t w P coefficients theory.undecided → EveryValuePossible F t w equations form
      every_value m wanted below =
          let (y, p, c) = m (λ j. el F L (wanted j)) in (
            numbers F L y,
            solution y p,
            λ j l.
                el_same F L _ _ (sum_below F L t _) (below j l)
                (el_dot F L t (entry form.coefficients) (numbers F L y j) ∙ ap (λ (z : Assignment (Code F)). dot (field_of F L) t coefficients (z j)) (read_numbers F L y) ∙ c j l),
          )

      pub one_value : (v : ℕ → Code F) (values : List ℕ) → length values ≡ 16 → ((j : ℕ) → j < w → entry values j ≡ (v j).0) → ((j : ℕ) → w ≤ j → entry values j ≡ 0)
          → Means (field_of F L) t w P coefficients (theory.decided v) → OneValue F t w equations form values
      one_value v values full here rest m = record {
        possible = let (y, p) = m.0 in (numbers F L y, solution y p);
        forced = λ x s j l.
            sym (el_number F L _ (sum_below F L t _))
            ∙ ap (λ (c : Code F). c.0) (el_dot F L t (entry form.coefficients) (x j) ∙ m.1 (read F L x) (holds x s) j l)
            ∙ sym (here j l);
        full = full;
        rest = rest;
      }

module _ (F : Arithmetic) (L : Laws F) (t w : ℕ) (equations : List Equation) (form : Form) where
  -- some solution, where every value is possible
  some_solution : EveryValuePossible F t w equations form → NoSolution F t w equations → ⊥
  some_solution every none = let (x, s, c) = every (λ j. 0) (λ j l. size_positive F L) in none x s

  -- one value is not every value
  not_both : 1 ≤ w → (values : List ℕ) → EveryValuePossible F t w equations form → OneValue F t w equations form values → ⊥
  not_both l values every one =
      let (x, s, c) = every (λ j. 0) (λ j m. size_positive F L) in
      let (y, r, d) = every (λ j. 1) (λ j m. omega (arith, L.two_elements)) in
      let z : ◌≡◌ {A = ℕ} 0 1 = sym (c 0 (omega arith)) ∙ one.forced x s 0 (omega arith) ∙ sym (one.forced y r 0 (omega arith)) ∙ d 0 (omega arith) in
      omega arith

  same_values : (u v : List ℕ) → OneValue F t w equations form u → OneValue F t w equations form v → u ≡ v
  same_values u v a b =
      let (x, s) = a.possible in
      ext_get_or 0 u v (a.full ∙ sym b.full) (λ j m.
      elim (dec_lt j w) [
        | yes l ↦ sym (a.forced x s j l) ∙ b.forced x s j l
        | no d ↦ let e : w ≤ j = omega arith in a.rest j e ∙ sym (b.rest j e)
      ])

  pub decides_unique : 1 ≤ w → (d e : Decision) → Decides F t w equations form d → Decides F t w equations form e → d ≡ e
  decides_unique l Contradictory Contradictory m n = refl
  decides_unique l Contradictory Open m n = absurd (some_solution n m)
  decides_unique l Contradictory (Decided v) m n = absurd (m n.possible.0 n.possible.1)
  decides_unique l Open Contradictory m n = absurd (some_solution m n)
  decides_unique l Open Open m n = refl
  decides_unique l Open (Decided v) m n = absurd (not_both l v m n)
  decides_unique l (Decided u) Contradictory m n = absurd (n m.possible.0 m.possible.1)
  decides_unique l (Decided u) Open m n = absurd (not_both l u n m)
  decides_unique l (Decided u) (Decided v) m n = ap Decided (same_values u v m n)

module _ (F : Arithmetic) (t w : ℕ) (first second : List Equation) (same : SameMembers first second) where
  moved_there : (x : Values) → Solution F t w first x → Solution F t w second x
  moved_there x s = record { elements = s.elements; satisfies = λ e m. s.satisfies e (same.back e m) }

  moved_back : (x : Values) → Solution F t w second x → Solution F t w first x
  moved_back x s = record { elements = s.elements; satisfies = λ e m. s.satisfies e (same.there e m) }

  pub decides_order : (form : Form) (d : Decision) → Decides F t w first form d → Decides F t w second form d
  decides_order form Contradictory m = λ x s. m x (moved_back x s)
  decides_order form Open m = λ wanted below. let (x, s, c) = m wanted below in (x, moved_there x s, c)
  decides_order form (Decided v) m = record {
    possible = let (x, s) = m.possible in (x, moved_there x s);
    forced = λ x s. m.forced x (moved_back x s);
    full = m.full;
    rest = m.rest;
  }

module _ (F : Arithmetic) (L : Laws F) (t w : ℕ) (equations : List Equation) (form : Form) where
  pub promised : 1 ≤ w → (d : Decision) → Decides F t w equations form d → Promise F t w equations form d
  promised l d right = record {
    right = right;
    only = λ e other. decides_unique F L t w equations form l e d other right;
    in_any_order = λ others same. decides_order F t w equations others same form d right;
  }

abbrev where_below : {j w : ℕ} → ℕ → Dec (j < w) → ℕ
where_below n (yes l) = n
where_below n (no d) = 0

-- the first w of the numbers, and 0 past them
abbrev padded_from : ℕ → (ℕ → ℕ) → ℕ → ℕ
padded_from w v j = where_below (v j) (dec_lt j w)

unfoldable pub padded : ℕ → (ℕ → ℕ) → List ℕ
padded w v = map (padded_from w v) (range_with_len 0 16)

length_padded : (w : ℕ) (v : ℕ → ℕ) → length (padded w v) ≡ 16
unfolding padded
length_padded w v = length-map-range_with_len (padded_from w v) 0 16

padded_is : (w : ℕ) (v : ℕ → ℕ) (j : ℕ) → j < 16 → entry (padded w v) j ≡ padded_from w v j
unfolding padded
padded_is w v j l = get_or-map-range_with_len (padded_from w v) 0 16 j j 0 l (omega arith)

padded_at : (w : ℕ) (v : ℕ → ℕ) → w ≤ 16 → (j : ℕ) → j < w → entry (padded w v) j ≡ v j
padded_at w v h j l = padded_is w v j (omega arith) ∙ (elim (dec_lt j w) as (λ d. where_below (v j) d ≡ v j) [ yes m ↦ refl | no d ↦ absurd (d l) ])

padded_past : (w : ℕ) (v : ℕ → ℕ) (j : ℕ) → w ≤ j → entry (padded w v) j ≡ 0
padded_past w v j h =
    elim (dec_lt j 16) [
      | yes l ↦ padded_is w v j l ∙ (elim (dec_lt j w) as (λ d. where_below (v j) d ≡ 0) [ yes m ↦ absurd (omega arith) | no d ↦ refl ])
      | no d ↦ get_or_past (padded w v) j 0 (omega (arith, length_padded w v))
    ]

module _ (F : Arithmetic) (L : Laws F) (t w : ℕ) where
  all_hold_to : (es : List Equation) (x : Values) → AllSatisfied F t w es x → AllHold (field_of F L) t w (map (row_of F L) es) (read F L x)
  all_hold_to [] x h = tt
  all_hold_to (e ∷ es) x h = (all_hold_to es x (λ f m. h f (Memᴰ.tail m)), satisfies_to F L t w e x (h e (Memᴰ.head refl)))

  all_hold_from : (es : List Equation) (x : Values) → AllHold (field_of F L) t w (map (row_of F L) es) (read F L x) → AllSatisfied F t w es x
  all_hold_from [] x h f m = absurd (Memᴰ.not-nil m)
  all_hold_from (e ∷ es) x h f m =
      let here : f ≡ e → Satisfies F t w f x = λ i. subst (λ d. Satisfies F t w d x) (sym i) (satisfies_from F L t w e x h.1) in
      ⊎_elim here (all_hold_from es x h.0 f) (Memᴰ.cases_cons m)

  abbrev pub decision_of : Verdict (Code F) → Decision
  decision_of theory.contradictory = Contradictory
  decision_of theory.undecided = Open
  decision_of (theory.decided v) = Decided (padded w (λ j. (v j).0))

  module _ (most : w ≤ 16) (equations : List Equation) (form : Form) where
    reads : Reads F L t w equations (AllHold (field_of F L) t w (map (row_of F L) equations))
    reads x = (all_hold_from equations x, all_hold_to equations x)

    pub means_decides : (v : Verdict (Code F)) → Means (field_of F L) t w (AllHold (field_of F L) t w (map (row_of F L) equations)) (λ k. el F L (entry form.coefficients k)) v → Decides F t w equations form (decision_of v)
    means_decides theory.contradictory m = no_solution F L t w equations _ reads m
    means_decides theory.undecided m = every_value F L t w equations _ reads form m
    means_decides (theory.decided v) m =
        one_value F L t w equations _ reads form v (padded w (λ j. (v j).0)) (length_padded w _) (padded_at w (λ j. (v j).0) most) (padded_past w (λ j. (v j).0)) m

    unfoldable pub decision : (d : Decision) × Decides F t w equations form d
    decision =
        let (v, m) = verdict (field_of F L) t w (map (row_of F L) equations) (λ k. el F L (entry form.coefficients k)) in
        (decision_of v, means_decides v m)

pub one_decision : OneDecision
one_decision F L t w some most equations form =
    let (d, right) = decision F L t w most equations form in
    (d, right, λ e other. decides_unique F L t w equations form some e d other right)
