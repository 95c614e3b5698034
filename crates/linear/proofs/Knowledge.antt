-- What a basis knows: a list of rows, as one echelon basis.
--   knows_nothing, knows_joined    no row, and one more
--   knows_redundant, knows_contradiction, knows_stored    the three ways in which a row is taken in
--   First               the first place below n where a function is not zero, and what inverts it there
--   free_of             a column where a reduced row is not zero has no row in the basis
--   reduce, first, put, insert, run    the elimination as a function of rows
-- Assumes nothing.
use Rattle.std.proofs.Common.{◌≡◌, ℕ, suc, ◌<◌, ◌≤◌, ◌≢◌, ◌⊎◌, ◌↔◌, List, [], ◌∷◌, Some, None, Option, refl, ap, ◌∙◌, subst, inl, inr, arith}
use Prim.Native.Nat as nat
use native.Mathlib.Decide.{ℕ_discrete}
use Rattle.linear.proofs.Fields.{Field}
use Rattle.linear.proofs.Systems.{Row, Assignment, Basis, Leads, Satisfies, Solves, Echelon, AllHold}
use Rattle.linear.proofs.Values.{inverse_not_zero}
use Rattle.linear.proofs.Reduction.{Times, Agree, Clear, Reduced, Put, Knows}
use Rattle.linear.proofs.Elimination.{reduced_start, reduced_skip, reduced_step, redundant, contradiction, stored}

module _ {V : Type 0} (F : Field V) (t w : ℕ) where
  open F use {zero, one, add, neg, mul, inverse}

  -- one equation more, in a basis that has it
  pub knows_joined : (P : Assignment V → Type 0) {b after : Basis V} (e : Row V) → Knows F t w P b → Echelon F t w after
      → ((x : Assignment V) → Solves F t w after x ↔ (Solves F t w b x × Satisfies F t w e x)) → Knows F t w (λ x. P x × Satisfies F t w e x) after
  knows_joined P e known ech both = record {
    echelon = ech;
    same = λ x. (λ m. let old = (both x).0 m in ((known.same x).0 old.0, old.1), λ m. (both x).1 ((known.same x).1 m.0, m.1));
  }

  pub knows_nothing : Knows F t w (AllHold F t w []) (λ p. None)
  knows_nothing = record { echelon = λ p l. tt; same = λ x. ((λ s. tt), λ s p l. tt) }

  module _ (P : Assignment V → Type 0) (b : Basis V) (known : Knows F t w P b) (e r : Row V) (agree : Agree F t w b e r) where
    pub knows_redundant : ((k : ℕ) → k < t → r.coef k ≡ zero) → ((j : ℕ) → j < w → r.rhs j ≡ zero) → Knows F t w (λ x. P x × Satisfies F t w e x) b
    knows_redundant n z = record {
      echelon = known.echelon;
      same = λ x. ((λ s. ((known.same x).0 s, redundant F t w b e r agree n z x s)), λ s. (known.same x).1 s.0);
    }

    pub knows_contradiction : ((k : ℕ) → k < t → r.coef k ≡ zero) → (j : ℕ) → j < w → r.rhs j ≢ zero → (x : Assignment V) → P x → Satisfies F t w e x → ⊥
    knows_contradiction n j l z x p m = contradiction F t w b e r agree n j l z x ((known.same x).1 p) m

    pub knows_stored : {scaled : Row V} {after : Basis V} (p : ℕ) (inv : V) → p < t → b p ≡ None → ((k : ℕ) → k < p → r.coef k ≡ zero) → mul (r.coef p) inv ≡ one → Times F t w inv r scaled → Put F t w b p scaled after → Knows F t w (λ x. P x × Satisfies F t w e x) after
    knows_stored p inv l i low one_of_lem s h =
        let (ech, both) = stored F t w b e r p inv l known.echelon agree i low one_of_lem s h in
        knows_joined P e known ech both

  -- a column where a reduced row is not zero has no row in the basis
  pub free_of : (k : ℕ) (o : Option (Row V)) (r : Row V) → Clear F t w k o r → r.coef k ≢ zero → o ≡ None
  free_of k None r c d = refl
  free_of k (Some f) r c d = absurd (d c)

  -- the elimination as a function of rows
  unfoldable pub reduce : (b : Basis V) → Echelon F t w b → (e : Row V) (p : ℕ) → p ≤ t → (r : Row V) × Reduced F t w b e p r
  reduce b ech e nat.zero l = (e, reduced_start F t w b e)
  reduce b ech e (suc p) l = let (r, h) = reduce b ech e p (omega arith) in go r h (b p) refl
    where
      go : (r : Row V) → Reduced F t w b e p r → (o : Option (Row V)) → b p ≡ o → (s : Row V) × Reduced F t w b e (suc p) s
      go r h None i = (r, reduced_skip F t w b p (suc p) (omega arith) i h)
      go r h (Some f) i =
          let c = r.coef p in (
            record { coef = λ k. add (r.coef k) (neg (mul c (f.coef k))); rhs = λ j. add (r.rhs j) (neg (mul c (f.rhs j))) },
            reduced_step F t w b p (suc p) (omega arith) (omega arith) (subst (Leads F p) i (ech p (omega arith))) i (record { coefs = λ k m. refl; rhss = λ j m. refl }) h,
          )

  pub record First (n : ℕ) (f : ℕ → V) : Type 0 where
    pub place : ℕ
    pub within : place < n
    pub low : (k : ℕ) → k < place → f k ≡ zero
    pub inv : V
    pub inverts : mul (f place) inv ≡ one

  unfoldable pub first : (n : ℕ) (f : ℕ → V) → ((k : ℕ) → k < n → f k ≡ zero) ⊎ First n f
  first nat.zero f = inl (λ k l. absurd (omega arith))
  first (suc n) f = go (first n f) (inverse (f n))
    where
      go : ((k : ℕ) → k < n → f k ≡ zero) ⊎ First n f → (f n ≡ zero) ⊎ ((b : V) × (mul (f n) b ≡ one)) → ((k : ℕ) → k < suc n → f k ≡ zero) ⊎ First (suc n) f
      go (inr h) i = inr (record { place = h.place; within = omega arith; low = h.low; inv = h.inv; inverts = h.inverts })
      go (inl z) (inl e) = inl (λ k l. elim (ℕ_discrete k n) [ yes a ↦ ap f a ∙ e | no d ↦ z k (omega arith) ])
      go (inl z) (inr i) = inr (record { place = n; within = omega arith; low = z; inv = i.0; inverts = i.1 })

  unfoldable pub put : Basis V → ℕ → Row V → Basis V
  put b p r q = elim (ℕ_discrete q p) [ yes i ↦ Some r | no d ↦ b q ]

  pub put_put : (b : Basis V) (p : ℕ) (r : Row V) → Put F t w b p r (put b p r)
  unfolding put
  put_put b p r = record {
    here = elim (ℕ_discrete p p) as (λ d. elim d [ yes i ↦ Some r | no d ↦ b p ] ≡ Some r) [ yes i ↦ refl | no d ↦ absurd (d refl) ];
    elsewhere = λ q l n. elim (ℕ_discrete q p) as (λ d. elim d [ yes i ↦ Some r | no d ↦ b q ] ≡ b q) [ yes i ↦ absurd (n i) | no d ↦ refl ];
  }

  unfoldable pub insert : (P : Assignment V → Type 0) (b : Basis V) → Knows F t w P b → (e : Row V) → ((x : Assignment V) → P x → Satisfies F t w e x → ⊥) ⊎ ((after : Basis V) × Knows F t w (λ x. P x × Satisfies F t w e x) after)
  insert P b known e = let (r, h) = reduce b known.echelon e t (omega arith) in go r h (first t r.coef) (first w r.rhs)
    where
      go : (r : Row V) → Reduced F t w b e t r → ((k : ℕ) → k < t → r.coef k ≡ zero) ⊎ First t r.coef → ((k : ℕ) → k < w → r.rhs k ≡ zero) ⊎ First w r.rhs
          → ((x : Assignment V) → P x → Satisfies F t w e x → ⊥) ⊎ ((after : Basis V) × Knows F t w (λ x. P x × Satisfies F t w e x) after)
      go r h (inl z) (inl y) = inr (b, knows_redundant P b known e r h.agree z y)
      go r h (inl z) (inr y) = inl (knows_contradiction P b known e r h.agree z y.place y.within (inverse_not_zero F _ _ y.inverts))
      go r h (inr f) y =
          let p = f.place in
          inr (
            _,
            knows_stored P b known e r h.agree p f.inv f.within (free_of p (b p) r (h.clear p f.within) (inverse_not_zero F _ _ f.inverts)) f.low f.inverts
                (record { coefs = λ k l. refl; rhss = λ j l. refl })
                (put_put b p (record { coef = λ k. mul f.inv (r.coef k); rhs = λ j. mul f.inv (r.rhs j) })),
          )

  unfoldable pub run : (es : List (Row V)) → ((x : Assignment V) → AllHold F t w es x → ⊥) ⊎ ((b : Basis V) × Knows F t w (AllHold F t w es) b)
  run [] = inr ((λ p. None), knows_nothing)
  run (e ∷ es) = go (run es)
    where
      go : ((x : Assignment V) → AllHold F t w es x → ⊥) ⊎ ((b : Basis V) × Knows F t w (AllHold F t w es) b) → ((x : Assignment V) → AllHold F t w (e ∷ es) x → ⊥) ⊎ ((b : Basis V) × Knows F t w (AllHold F t w (e ∷ es)) b)
      go (inl never) = inl (λ x h. never x h.0)
      go (inr (b, known)) =
          elim (insert (AllHold F t w es) b known e) [ inl never ↦ inl (λ x h. never x h.0 h.1) | inr after ↦ inr after ]
