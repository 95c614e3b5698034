-- How a row is reduced by an echelon basis, and stored in it.
--   agree_iff, agree_less    what rows that agree have in common
--   clear_zero               a row with zero there is clear
--   less_below, less_here    what clearing a column leaves before it and there
--   reduced_start, reduced_skip, reduced_step    the columns that have a row are cleared one by one
--   trimmed_skip, trimmed_step    every column is made zero, one by one
--   agree_settles, redundant, contradiction    a row all of whose coefficients became zero
--   put_echelon, put_solves, stored    a row scaled to one at its first column and stored there
-- Assumes nothing.
use Rattle.std.proofs.Common.{◌≡◌, ℕ, ◌+◌, ◌<◌, ◌≤◌, ◌≢◌, ◌↔◌, Some, None, Option, sym, refl, ap, ◌∙◌, subst, arith}
use native.Mathlib.Decide.{ℕ_discrete}
use Rattle.linear.proofs.Fields.{Field}
use Rattle.linear.proofs.Systems.{Row, Assignment, Basis, Leads, Satisfies, Meets, Solves, Echelon}
use Rattle.linear.proofs.Values.{zero_add, mul_zero, neg_neg, neg_zero}
use Rattle.linear.proofs.Sums.{dot_zero}
use Rattle.linear.proofs.Reduction.{gap, Less, Times, Agree, Clear, Reduced, Trimmed, Put}
use Rattle.linear.proofs.RowOperations.{no_gap, satisfied, gap_kept, times_iff}

module _ {V : Type 0} (F : Field V) (t w : ℕ) (b : Basis V) where
  open F use {zero, one, add, neg, mul, add_zero, add_neg, mul_one, mul_comm}

  pub agree_iff : (e r : Row V) → Agree F t w b e r → (x : Assignment V) → Solves F t w b x → Satisfies F t w e x ↔ Satisfies F t w r x
  agree_iff e r a x s =
      (λ m. satisfied F t w r x (λ j l. a x s j l ∙ no_gap F t w e x m j l), λ m. satisfied F t w e x (λ j l. sym (a x s j l) ∙ no_gap F t w r x m j l))

  pub agree_less : (e : Row V) {r f less : Row V} {c : V} (p : ℕ) → p < t → b p ≡ Some f → Less F t w r c f less → Agree F t w b e r → Agree F t w b e less
  agree_less e p l i h a x s j n =
      gap_kept F t w h x (subst (λ o. Meets F t w o x) i (s p l)) j n ∙ a x s j n

  -- what a step does below p, and at p
  pub less_below : {r f less : Row V} {c : V} (p k : ℕ) → p < t → Leads F p (Some f) → Less F t w r c f less → k < p → less.coef k ≡ r.coef k
  less_below p k l h s m = s.coefs k (omega arith) ∙ simp (h.1 k m, mul_zero F, neg_zero F, add_zero)

  pub less_here : {r f less : Row V} (p : ℕ) → p < t → Leads F p (Some f) → Less F t w r (r.coef p) f less → less.coef p ≡ zero
  less_here p l h s = s.coefs p l ∙ simp (h.0, mul_one, add_neg)

  clear_moved : (k : ℕ) (o : Option (Row V)) (r s : Row V) → s.coef k ≡ r.coef k → Clear F t w k o r → Clear F t w k o s
  clear_moved k None r s i c = tt
  clear_moved k (Some f) r s i c = i ∙ c

  pub clear_zero : (k : ℕ) (o : Option (Row V)) (r : Row V) → r.coef k ≡ zero → Clear F t w k o r
  clear_zero k None r i = tt
  clear_zero k (Some f) r i = i

  pub reduced_start : (e : Row V) → Reduced F t w b e 0 e
  reduced_start e = record { agree = λ x s j l. refl; clear = λ k l. absurd (omega arith) }

  pub reduced_skip : {e r : Row V} (p q : ℕ) → q ≤ p + 1 → b p ≡ None → Reduced F t w b e p r → Reduced F t w b e q r
  reduced_skip {e} {r} p q l i h = record {
    agree = h.agree;
    clear = λ k m. elim (ℕ_discrete p k) [ yes s ↦ subst (λ o. Clear F t w k o r) (sym i ∙ ap b s) tt | no d ↦ h.clear k (omega arith) ];
  }

  pub reduced_step : {e r f less : Row V} (p q : ℕ) → q ≤ p + 1 → p < t → Leads F p (Some f) → b p ≡ Some f → Less F t w r (r.coef p) f less → Reduced F t w b e p r → Reduced F t w b e q less
  reduced_step {e} {r} {f} {less} p q u l lead i s h = record {
    agree = agree_less e p l i s h.agree;
    clear = λ k m. elim (ℕ_discrete k p) [
      | yes a ↦ clear_zero k (b k) less (ap less.coef a ∙ less_here p l lead s)
      | no d ↦ clear_moved k (b k) r less (less_below p k l lead s (omega arith)) (h.clear k (omega arith))
    ];
  }

  -- a row with zero at every column
  pub agree_settles : (e r : Row V) → Agree F t w b e r → ((k : ℕ) → k < t → r.coef k ≡ zero) → (x : Assignment V) → Solves F t w b x → (j : ℕ) → j < w → gap F t w e x j ≡ neg (r.rhs j)
  unfolding gap
  agree_settles e r a n x s j l =
      sym (a x s j l) ∙ ap (λ d. add d (neg (r.rhs j))) (dot_zero F t r.coef (x j) n) ∙ zero_add F _

  pub redundant : (e r : Row V) → Agree F t w b e r → ((k : ℕ) → k < t → r.coef k ≡ zero) → ((j : ℕ) → j < w → r.rhs j ≡ zero) → (x : Assignment V) → Solves F t w b x → Satisfies F t w e x
  redundant e r a n z x s = satisfied F t w e x (λ j l. agree_settles e r a n x s j l ∙ ap neg (z j l) ∙ neg_zero F)

  pub contradiction : (e r : Row V) → Agree F t w b e r → ((k : ℕ) → k < t → r.coef k ≡ zero) → (j : ℕ) → j < w → r.rhs j ≢ zero → (x : Assignment V) → Solves F t w b x → Satisfies F t w e x → ⊥
  contradiction e r a n j l z x s m =
      z (sym (neg_neg F (r.rhs j)) ∙ ap neg (sym (agree_settles e r a n x s j l) ∙ no_gap F t w e x m j l) ∙ neg_zero F)

  pub put_echelon : {r : Row V} {after : Basis V} (p : ℕ) → Put F t w b p r after → Echelon F t w b → Leads F p (Some r) → Echelon F t w after
  put_echelon {r} {after} p h e lead q l =
      elim (ℕ_discrete p q) [ yes i ↦ subst (λ (k : ℕ). Leads F k (after k)) i (subst (Leads F p) (sym h.here) lead) | no d ↦ subst (Leads F q) (sym (h.elsewhere q l (λ i. d (sym i)))) (e q l) ]

  pub put_solves : {r : Row V} {after : Basis V} (p : ℕ) → p < t → Put F t w b p r after → b p ≡ None → (x : Assignment V) → Solves F t w after x ↔ (Solves F t w b x × Satisfies F t w r x)
  put_solves {r} {after} p l h i x = (
    λ s. (
      (λ q m. elim (ℕ_discrete p q) [ yes a ↦ subst (λ o. Meets F t w o x) (sym i ∙ ap b a) tt | no d ↦ subst (λ o. Meets F t w o x) (h.elsewhere q m (λ a. d (sym a))) (s q m) ]),
      subst (λ o. Meets F t w o x) h.here (s p l),
    ),
    λ s q m. elim (ℕ_discrete p q) [ yes a ↦ subst (λ o. Meets F t w o x) (sym h.here ∙ ap after a) s.1 | no d ↦ subst (λ o. Meets F t w o x) (sym (h.elsewhere q m (λ a. d (sym a)))) (s.0 q m) ],
  )

  -- the row r that e came to, scaled to one at its first column p and stored there
  pub stored : (e r : Row V) {scaled : Row V} {after : Basis V} (p : ℕ) (inv : V) → p < t → Echelon F t w b → Agree F t w b e r → b p ≡ None → ((k : ℕ) → k < p → r.coef k ≡ zero) → mul (r.coef p) inv ≡ one → Times F t w inv r scaled → Put F t w b p scaled after
      → Echelon F t w after × ((x : Assignment V) → Solves F t w after x ↔ (Solves F t w b x × Satisfies F t w e x))
  stored e r {scaled} {after} p inv l ech a i low one_of_lem s h =
      let unit_of : mul inv (r.coef p) ≡ one = mul_comm inv (r.coef p) ∙ one_of_lem in
      let lead : Leads F p (Some scaled) = (s.coefs p l ∙ unit_of, λ k m. s.coefs k (omega arith) ∙ ap (mul inv) (low k m) ∙ mul_zero F inv) in (
        put_echelon p h ech lead,
        λ x.
            let put = put_solves p l h i x in
            let scale = times_iff F t w unit_of s x in (
              λ m. let old = put.0 m in (old.0, (agree_iff e r a x old.0).1 (scale.1 old.1)),
              λ m. put.1 (m.0, scale.0 ((agree_iff e r a x m.0).0 m.1)),
            ),
      )

  pub trimmed_skip : {e r : Row V} (p q : ℕ) → q ≤ p + 1 → r.coef p ≡ zero → Trimmed F t w b e p r → Trimmed F t w b e q r
  trimmed_skip {e} {r} p q l i h = record {
    agree = h.agree;
    low = λ k m. elim (ℕ_discrete k p) [ yes s ↦ ap r.coef s ∙ i | no d ↦ h.low k (omega arith) ];
  }

  pub trimmed_step : {e r f less : Row V} (p q : ℕ) → q ≤ p + 1 → p < t → Leads F p (Some f) → b p ≡ Some f → Less F t w r (r.coef p) f less → Trimmed F t w b e p r → Trimmed F t w b e q less
  trimmed_step {e} {r} {f} {less} p q u l lead i s h = record {
    agree = agree_less e p l i s h.agree;
    low = λ k m. elim (ℕ_discrete k p) [
      | yes a ↦ ap less.coef a ∙ less_here p l lead s
      | no d ↦ less_below p k l lead s (omega arith) ∙ h.low k (omega arith)
    ];
  }
