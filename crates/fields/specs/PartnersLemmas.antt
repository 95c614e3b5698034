-- What the search for an inverse finds.
--   Partner     b is below n, and its product with a is one
--   found       what it finds is below n, and its product with a is one
--   exists      it finds a number if there is one
--   only        it finds p if p is one and there is no other
--   none        it finds nothing if there is none
--   same        it finds the same for two numbers whose products are the same
-- Assumes nothing.
use Rattle.std.specs.Prelude.{◌≡◌, ℕ, zero, suc, ◌<◌, Bool, true, false, cond, not, T, Some, None, Option, ◌==◌, ◌≢◌}
use Rattle.std.proofs.Math.Path.{refl, ap}
use Rattle.std.proofs.Common.{sym, ◌∙◌, subst, le_of_suc-le-suc, not-suc-le-zero, eq-or-lt_of_le, lt-suc_self, lt_trans, T_not, eqb→eq}
use Rattle.std.proofs.Math.Logic.{⊎_elim}
use native.Mathlib.Omega.{arith}
use Rattle.std.proofs.Math.Dec.{eqb_refl}
use Rattle.fields.specs.Partners.{partner}

pub record Partner (mul : ℕ → ℕ → ℕ) (n a b : ℕ) : Type 0 where
  pub below : b < n
  pub one : mul a b ≡ 1

some_is : (m n : ℕ) → ◌≡◌ {A = Option ℕ} (Some m) (Some n) → m ≡ n
some_is m n e = cc

none_some : (b : ℕ) → ◌≡◌ {A = Option ℕ} None (Some b) → ◌≡◌ {A = ℕ} 0 1
none_some b e = cc

module _ (mul : ℕ → ℕ → ℕ) where
  found_at : (n a b : ℕ) (t : Bool) → (T t → mul a n ≡ 1) → (o : Option ℕ) → (o ≡ Some b → Partner mul n a b)
      → cond t (Some n) o ≡ Some b → Partner mul (suc n) a b
  found_at n a b true h o k e =
      let i : n ≡ b = some_is n b e in
      record { below = rw (← i) (lt-suc_self n); one = rw (← i) (h tt) }
  found_at n a b false h o k e =
      record { below = lt_trans (k e).below (lt-suc_self n); one = (k e).one }

  pub found : (n a b : ℕ) → partner mul n a ≡ Some b → Partner mul n a b
  unfolding partner
  found zero a b e = let z = none_some b e in omega arith
  found (suc n) a b e = found_at n a b (mul a n == 1) (eqb→eq (mul a n) 1) (partner mul n a) (found n a b) e

  exists_at : (n : ℕ) (t : Bool) (o : Option ℕ) → (T (not t) → (b : ℕ) × (o ≡ Some b)) → (b : ℕ) × (cond t (Some n) o ≡ Some b)
  exists_at n true o k = (n, refl)
  exists_at n false o k = k tt

  exists : (n a p : ℕ) → p < n → mul a p ≡ 1 → (b : ℕ) × (partner mul n a ≡ Some b)
  unfolding partner
  exists zero a p h e = absurd (not-suc-le-zero h)
  exists (suc n) a p h e =
      exists_at n (mul a n == 1) (partner mul n a)
      (λ t. ⊎_elim
      (λ i. absurd (T_not (mul a n == 1) t (subst (λ (x : ℕ). T (x == 1)) (sym (ap (mul a) (sym i) ∙ e)) (eqb_refl 1))))
      (λ k. exists n a p k e) (eq-or-lt_of_le (le_of_suc-le-suc h)))

  pub only : (n a p : ℕ) → p < n → mul a p ≡ 1 → ((q : ℕ) → q < n → mul a q ≡ 1 → q ≡ p) → partner mul n a ≡ Some p
  only n a p h e u =
      let it = exists n a p h e in
      let known = found n a it.0 it.1 in
      it.1 ∙ ap Some (u it.0 known.below known.one)

  none_at : (n a : ℕ) (o : Option ℕ) → partner mul n a ≡ o → ((b : ℕ) → b < n → mul a b ≢ 1) → partner mul n a ≡ None
  none_at n a None e h = e
  none_at n a (Some b) e h = absurd (h b (found n a b e).below (found n a b e).one)

  pub none : (n a : ℕ) → ((b : ℕ) → b < n → mul a b ≢ 1) → partner mul n a ≡ None
  none n a h = none_at n a (partner mul n a) refl h

  pub same : (n a b : ℕ) → ((c : ℕ) → mul a c ≡ mul b c) → partner mul n a ≡ partner mul n b
  unfolding partner
  same zero a b h = refl
  same (suc n) a b h =
      ap (λ (x : ℕ). cond (x == 1) (Some n) (partner mul n a)) (h n)
      ∙ ap (cond (mul b n == 1) (Some n)) (same n a b h)
