-- Row operations, by the gap of a row at an assignment.
--   no_gap, satisfied   a row is satisfied where its gap is zero, and only there
--   gap_less, gap_times    the gap of a row less a multiple of another, and of a multiple
--   gap_kept            to take off a multiple of a row that is satisfied changes no gap
--   times_iff           a multiple by what has an inverse is satisfied just where the row is
-- Assumes nothing.
use Rattle.std.proofs.Common.{◌≡◌, ℕ, ◌<◌, ◌↔◌, sym, refl, ap, ◌∙◌, ap₂}
use Rattle.linear.proofs.Fields.{Field, dot}
use Rattle.linear.proofs.Systems.{Row, Assignment, Satisfies}
use Rattle.linear.proofs.Reduction.{gap, Less, Times}
use Rattle.linear.proofs.Values.{mul_zero, mul_neg, neg_of_add, neg_zero, neg_neg, add_left_comm, same_of_gap, gap_of_same, undo}
use Rattle.linear.proofs.Sums.{dot_ext, mul_dot, less_dot}

module _ {V : Type 0} (F : Field V) (t w : ℕ) where
  open F use {zero, one, add, neg, mul, add_assoc, add_comm, add_zero, mul_comm, mul_add}

  pub no_gap : (e : Row V) (x : Assignment V) → Satisfies F t w e x → (j : ℕ) → j < w → gap F t w e x j ≡ zero
  unfolding gap
  no_gap e x s j l = gap_of_same F _ _ (s j l)

  pub satisfied : (e : Row V) (x : Assignment V) → ((j : ℕ) → j < w → gap F t w e x j ≡ zero) → Satisfies F t w e x
  unfolding gap
  satisfied e x s j l = same_of_gap F _ _ (s j l)

  regroup : (c d r e s : V) → add (add d (neg (mul c e))) (neg (add r (neg (mul c s)))) ≡ add (add d (neg r)) (neg (mul c (add e (neg s))))
  regroup c d r e s = simp (neg_of_add F, neg_neg F, mul_add, mul_neg F, add_assoc, add_comm, add_left_comm F)

  pub gap_less : {e f less : Row V} {c : V} → Less F t w e c f less → (x : Assignment V) (j : ℕ) → j < w → gap F t w less x j ≡ add (gap F t w e x j) (neg (mul c (gap F t w f x j)))
  unfolding gap
  gap_less {e} {f} {less} {c} h x j l =
      ap₂ (λ a b. add a (neg b)) (dot_ext F t _ _ (x j) (x j) h.coefs (λ k m. refl) ∙ less_dot F t c e.coef f.coef (x j)) (h.rhss j l)
      ∙ regroup c (dot F t e.coef (x j)) (e.rhs j) (dot F t f.coef (x j)) (f.rhs j)

  pub gap_times : {e times : Row V} {c : V} → Times F t w c e times → (x : Assignment V) (j : ℕ) → j < w → gap F t w times x j ≡ mul c (gap F t w e x j)
  unfolding gap
  gap_times {e} {times} {c} h x j l =
      ap₂ (λ a b. add a (neg b)) (dot_ext F t _ _ (x j) (x j) h.coefs (λ k m. refl) ∙ mul_dot F t c e.coef (x j)) (h.rhss j l)
      ∙ simp (mul_add, mul_neg F)

  -- to take off a multiple of a row that holds changes no gap
  pub gap_kept : {e f less : Row V} {c : V} → Less F t w e c f less → (x : Assignment V) → Satisfies F t w f x → (j : ℕ) → j < w → gap F t w less x j ≡ gap F t w e x j
  gap_kept {e} {f} {less} {c} h x s j l = gap_less h x j l ∙ simp (no_gap f x s j l, mul_zero F, neg_zero F, add_zero)

  pub times_iff : {e times : Row V} {c d : V} → mul c d ≡ one → Times F t w c e times → (x : Assignment V) → Satisfies F t w e x ↔ Satisfies F t w times x
  times_iff {e} {times} {c} {d} i h x = (
    λ m. satisfied times x (λ j l. gap_times h x j l ∙ ap (mul c) (no_gap e x m j l) ∙ mul_zero F c),
    λ m. satisfied e x (λ j l. sym (undo F d c _ (mul_comm d c ∙ i)) ∙ ap (mul d) (sym (gap_times h x j l) ∙ no_gap times x m j l) ∙ mul_zero F d),
  )
