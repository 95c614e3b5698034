-- Cards that stay when one is taken out.
--   others_stay    where no member meets a test, all of the others are all
--   none_there     where a test has no place, no member meets it
--   others_left    of cards with different ids, the others than one id's are those that its place leaves
-- Assumes nothing.
use Rattle.std.proofs.Common.{◌≡◌, ℕ, zero, suc, ◌+◌, ◌<◌, Bool, true, false, not, cond, eqb, List, [], ◌∷◌, length, get_or, filter, Option, Some, None, nat_lt, inl, inr, sym, ap, ◌∙◌, refl, arith, eqb-true}
use Rattle.std.specs.List.{list_any, position, position_or_len}
use Rattle.std.specs.Prelude.{remove}
use Rattle.std.proofs.lemmas.Bool.{or_parts, ne_eqb, cases_lt}
use Rattle.std.proofs.lemmas.Bool.Decides.{nat_tests}
use Rattle.fields.specs.Arithmetic.{Arithmetic}
use Rattle.sharing.specs.Cards.{Card, Every}
use Rattle.pools.specs.Sessions.{Apart}

-- std has nothing for it
pub others_stay : {A : Type 0} (p : A → Bool) (xs : List A) → list_any p xs ≡ false → filter (λ x. not (p x)) xs ≡ xs
others_stay p [] e = refl
others_stay p (x ∷ xs) e = let parts = or_parts (p x) (list_any p xs) e in rw (parts.0, others_stay p xs parts.1)

pub none_there : {A : Type 0} (p : A → Bool) (xs : List A) → position p xs ≡ None → list_any p xs ≡ false
none_there p [] e = refl
none_there p (x ∷ xs) e = go (p x) refl (λ rest. none_there p xs rest)
  where
    go : (b : Bool) → p x ≡ b → (position p xs ≡ None → list_any p xs ≡ false) → list_any p (x ∷ xs) ≡ false
    go true met rest =
        let first : nat_lt 0 (suc (length xs)) ≡ true = grind (arith, nat_tests) in
        let there : position p (x ∷ xs) ≡ cond (nat_lt 0 (suc (length xs))) (Some 0) None = rw met refl in
        let wrong : ◌≡◌ {A = Option ℕ} (Some 0) None = sym (rw first at there) ∙ e in
        cc
    go false not_met rest =
        let n = position_or_len p xs in
        elim (cases_lt n (length xs)) [
          | inl below ↦
              let later : nat_lt (1 + n) (suc (length xs)) ≡ true = grind (arith, nat_tests) in
              let there : position p (x ∷ xs) ≡ cond (nat_lt (1 + n) (suc (length xs))) (Some (1 + n)) None = rw not_met refl in
              let wrong : ◌≡◌ {A = Option ℕ} (Some (1 + n)) None = sym (rw later at there) ∙ e in
              cc
          | inr over ↦
              let past : nat_lt n (length xs) ≡ false = grind (arith, nat_tests) in
              let none : position p xs ≡ None = rw past refl in
              rw not_met (rest none)
        ]

-- where none has this id, each stays
all_stay : (id : ℕ) (cs : List Card) → Every (λ h. h.id ≡ id → ⊥) cs → filter (λ h. not (eqb h.id id)) cs ≡ cs
all_stay id [] h = refl
all_stay id (c ∷ cs) h = rw (ne_eqb c.id id h.0, all_stay id cs h.1) refl

module _ (F : Arithmetic) (ts : List ℕ) (w : ℕ) where
  pub others_left : (id : ℕ) (cs : List Card) (i : ℕ) (d : Card) → Apart F ts w cs → i < length cs → eqb (get_or cs i d).id id ≡ true
      → ((k : ℕ) → k < i → eqb (get_or cs k d).id id ≡ false) → filter (λ h. not (eqb h.id id)) cs ≡ remove cs i
  others_left id [] i d a l hit before = absurd (omega arith)
  others_left id (c ∷ cs) zero d a l hit before =
      let e : c.id ≡ id = eqb-true c.id id hit in
      rw hit (all_stay id cs (rw e at a.0))
  others_left id (c ∷ cs) (suc i) d a l hit before =
      let other : eqb c.id id ≡ false = before 0 (omega arith) in
      rw other (ap (λ xs. c ∷ xs) (others_left id cs i d a.1 (omega arith) hit (λ k low. before (suc k) (omega arith))))
