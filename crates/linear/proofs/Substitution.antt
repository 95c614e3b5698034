-- Back substitution: whatever the unknowns without a row are, the rows of an echelon basis can be satisfied.
--   unit, unit_here, unit_else    a value at one place, zero elsewhere
--   dot_raise, raise, raise_else    a value added at one place
--   Filled, fill, fill_down    the rows from column p on are satisfied
--   exists              any choice for the free unknowns extends to a solution
-- Assumes nothing.
use Rattle.std.proofs.Common.{◌≡◌, ℕ, suc, ◌+◌, ◌<◌, ◌≤◌, ◌≢◌, Some, None, Option, sym, refl, ap, ◌∙◌, subst, arith}
use Prim.Native.Nat as nat
use native.Mathlib.Decide.{ℕ_discrete}
use Rattle.linear.proofs.Fields.{Field, dot}
use Rattle.linear.proofs.Systems.{Row, Assignment, Basis, Leads, Satisfies, Meets, Solves, Echelon}
use Rattle.linear.proofs.Values.{zero_mul, mul_zero, one_mul, neg_of_add, neg_neg, take_back}
use Rattle.linear.proofs.Sums.{dot_single, dot_add}
use Rattle.linear.proofs.Reduction.{gap}

module _ {V : Type 0} (F : Field V) where
  open F use {zero, add, mul, add_zero}

  abbrev pick : {p k : ℕ} → V → Dec (k ≡ p) → V
  pick d (yes e) = d
  pick d (no e) = zero

  -- d at place p, zero elsewhere
  unfoldable pub unit : ℕ → V → ℕ → V
  unit p d k = pick d (ℕ_discrete k p)

  pub unit_here : (p : ℕ) (d : V) → unit p d p ≡ d
  unfolding unit
  unit_here p d = elim (ℕ_discrete p p) as (λ o. pick d o ≡ d) [ yes e ↦ refl | no e ↦ absurd (e refl) ]

  pub unit_else : (p : ℕ) (d : V) (k : ℕ) → k ≢ p → unit p d k ≡ zero
  unfolding unit
  unit_else p d k h = elim (ℕ_discrete k p) as (λ o. pick d o ≡ zero) [ yes e ↦ absurd (h e) | no e ↦ refl ]

  pub dot_raise : (n : ℕ) (r x : ℕ → V) (p : ℕ) (d : V) → p < n → dot F n r (λ k. add (x k) (unit p d k)) ≡ add (dot F n r x) (mul (r p) d)
  dot_raise n r x p d l =
      dot_add F n r x (unit p d)
      ∙ ap (add (dot F n r x)) (dot_single F n r (unit p d) p l (λ k m h. ap (mul (r k)) (unit_else p d k h) ∙ mul_zero F (r k)) ∙ ap (mul (r p)) (unit_here p d))

  -- x with d j added at the unknown p for the right side j
  pub raise : Assignment V → ℕ → (ℕ → V) → Assignment V
  raise x p d j k = add (x j k) (unit p (d j) k)

  pub raise_else : (x : Assignment V) (p : ℕ) (d : ℕ → V) (j k : ℕ) → k ≢ p → raise x p d j k ≡ x j k
  unfolding raise
  raise_else x p d j k h = ap (add (x j k)) (unit_else p (d j) k h) ∙ add_zero (x j k)

module _ {V : Type 0} (F : Field V) (t w : ℕ) where
  open F use {one, neg, add_zero}

  -- a row with zero at p does not see a change at p
  raise_unseen : (q : ℕ) (o : Option (Row V)) (x : Assignment V) (p : ℕ) (d : ℕ → V) → p < t → p < q → Leads F q o → Meets F t w o x → Meets F t w o (raise F x p d)
  unfolding raise
  raise_unseen q None x p d l m h s = tt
  raise_unseen q (Some e) x p d l m h s =
      λ j n. dot_raise F t e.coef (x j) p (d j) l ∙ simp (h.1 p m, zero_mul F, add_zero) (s j n)

  -- a row with one at p holds once its gap is taken off at p
  raise_meets : (f : Row V) (x : Assignment V) (p : ℕ) → p < t → f.coef p ≡ one → Satisfies F t w f (raise F x p (λ j. neg (gap F t w f x j)))
  unfolding raise gap
  raise_meets f x p l h j n =
      dot_raise F t f.coef (x j) p _ l ∙ simp (h, one_mul F, neg_of_add F, neg_neg F, take_back F)

  pub record Filled (b : Basis V) (c : Assignment V) (p : ℕ) (x : Assignment V) : Type 0 where
    pub rows : (q : ℕ) → p ≤ q → q < t → Meets F t w (b q) x
    pub low : (j k : ℕ) → k < p → x j k ≡ c j k
    pub free : (j k : ℕ) → k < t → b k ≡ None → x j k ≡ c j k

  fill : (b : Basis V) → Echelon F t w b → (c : Assignment V) (p : ℕ) → p < t → (x : Assignment V) → Filled b c (suc p) x → (x : Assignment V) × Filled b c p x
  fill b e c p l x h = go (b p) refl
    where
      -- the rows from p on, where the one at p is met
      from : (y : Assignment V) → Meets F t w (b p) y → ((q : ℕ) → p < q → q < t → Meets F t w (b q) y) → (q : ℕ) → p ≤ q → q < t → Meets F t w (b q) y
      from y here above q m n =
          elim (ℕ_discrete p q) [ yes i ↦ subst (λ (k : ℕ). Meets F t w (b k) y) i here | no d ↦ above q (omega arith) n ]

      go : (o : Option (Row V)) → b p ≡ o → (x : Assignment V) × Filled b c p x
      go None i = (x, record { rows = from x (subst (λ o. Meets F t w o x) (sym i) tt) h.rows; low = λ j k m. h.low j k (omega arith); free = h.free })
      go (Some f) i =
          let d : ℕ → V = λ j. neg (gap F t w f x j) in
          let lead : Leads F p (Some f) = subst (Leads F p) i (e p l) in
          let none : (k : ℕ) → b k ≡ None → k ≢ p = λ k n s. let z : ◌≡◌ {A = ℕ} 0 1 = cc in omega arith in (
            raise F x p d,
            record {
              rows = from _ (subst (λ o. Meets F t w o (raise F x p d)) (sym i) (raise_meets f x p l lead.0)) (λ q m n. raise_unseen q (b q) x p d l m (e q n) (h.rows q m n));
              low = λ j k m. raise_else F x p d j k (omega arith) ∙ h.low j k (omega arith);
              free = λ j k m n. raise_else F x p d j k (none k n) ∙ h.free j k m n;
            },
          )

  fill_down : (b : Basis V) → Echelon F t w b → (c : Assignment V) (d p : ℕ) → d + p ≡ t → (x : Assignment V) × Filled b c p x
  fill_down b e c nat.zero p i = (c, record { rows = λ q m n. absurd (omega arith); low = λ j k m. refl; free = λ j k m n. refl })
  fill_down b e c (suc d) p i =
      let (x, h) = fill_down b e c d (suc p) (omega arith) in
      fill b e c p (omega arith) x h

  -- any choice for the free places extends to a solution of the basis
  pub exists : (b : Basis V) → Echelon F t w b → (c : Assignment V) → (x : Assignment V) × Solves F t w b x × ((j k : ℕ) → k < t → b k ≡ None → x j k ≡ c j k)
  exists b e c =
      let (x, h) = fill_down b e c t 0 (omega arith) in
      (x, (λ p l. h.rows p (omega arith) l), h.free)
