-- What an echelon basis says of a linear form.
--   asks_gap            the gap of a row that asks for the form is the form's value
--   form_decided        nothing is left of the reduced row: each solution gives the form the same values
--   open_to_all         something is left: every value can be had
--   knows_decided, knows_undecided    the same of what the basis knows
--   verdict             the verdict of a list of rows and a form, with the proof of what it claims
-- Assumes nothing.
use Rattle.std.proofs.Common.{◌≡◌, ℕ, ◌<◌, ◌≢◌, ◌⊎◌, List, Some, None, Option, sym, refl, ap, ◌∙◌, ap₂, inl, inr, arith}
use Rattle.linear.proofs.Fields.{Field, dot}
use Rattle.linear.proofs.Systems.{Row, Assignment, Basis, Solves, Echelon, AllHold, Verdict, contradictory, undecided, decided, Means}
use Rattle.linear.proofs.Values.{zero_mul, mul_zero, neg_zero, undo, inverse_not_zero}
use Rattle.linear.proofs.Sums.{dot_ext, dot_single}
use Rattle.linear.proofs.Reduction.{gap, Clear, Reduced, Knows, Asks}
use Rattle.linear.proofs.Substitution.{unit, unit_here, unit_else, exists}
use Rattle.linear.proofs.Elimination.{agree_settles}
use Rattle.linear.proofs.Knowledge.{free_of, reduce, first, run}

module _ {V : Type 0} (F : Field V) (t w : ℕ) where
  open F use {zero, one, add, neg, mul, add_zero, add_neg, add_assoc, inverse}

  pub asks_gap : {g : ℕ → V} {e : Row V} → Asks F t w g e → (x : Assignment V) (j : ℕ) → j < w → gap F t w e x j ≡ dot F t g (x j)
  unfolding gap
  asks_gap {g} {e} h x j l =
      ap₂ (λ a b. add a (neg b)) (dot_ext F t _ _ (x j) (x j) h.coefs (λ k m. refl)) (h.rhss j l) ∙ simp (neg_zero F, add_zero)

  module _ (b : Basis V) (e r : Row V) (h : Reduced F t w b e t r) where
    pub form_decided : {g : ℕ → V} → Asks F t w g e → ((k : ℕ) → k < t → r.coef k ≡ zero) → (x : Assignment V) → Solves F t w b x → (j : ℕ) → j < w → dot F t g (x j) ≡ neg (r.rhs j)
    form_decided a z x s j l = sym (asks_gap a x j l) ∙ agree_settles F t w b e r h.agree z x s j l

    -- the reduced row at a solution whose free places hold only v, at k
    at_one_place : (x : Assignment V) (j k : ℕ) (v : V) → k < t → r.coef k ≢ zero → ((m : ℕ) → m < t → b m ≡ None → x j m ≡ unit F k v m) → dot F t r.coef (x j) ≡ mul (r.coef k) v
    at_one_place x j k v l d c =
        dot_single F t r.coef (x j) k l (λ m n ne. other m n ne (b m) refl (h.clear m n))
        ∙ ap (mul (r.coef k)) (c k l (free_of F t w k (b k) r (h.clear k l) d) ∙ unit_here F k v)
      where
        other : (m : ℕ) → m < t → m ≢ k → (o : Option (Row V)) → b m ≡ o → Clear F t w m o r → mul (r.coef m) (x j m) ≡ zero
        other m n ne None i z = ap (mul (r.coef m)) (c m n i ∙ unit_else F k v m ne) ∙ mul_zero F _
        other m n ne (Some f) i z = ap (λ a. mul a (x j m)) z ∙ zero_mul F _

    pub open_to_all : {g : ℕ → V} → Asks F t w g e → Echelon F t w b → (k : ℕ) → k < t → r.coef k ≢ zero → (wanted : ℕ → V) → (x : Assignment V) × Solves F t w b x × ((j : ℕ) → j < w → dot F t g (x j) ≡ wanted j)
    unfolding gap
    open_to_all {g} a ech k l d wanted = go (inverse (r.coef k))
      where
        go : (r.coef k ≡ zero) ⊎ ((y : V) × (mul (r.coef k) y ≡ one)) → (x : Assignment V) × Solves F t w b x × ((j : ℕ) → j < w → dot F t g (x j) ≡ wanted j)
        go (inl z) = absurd (d z)
        go (inr (y, i)) =
            let v : ℕ → V = λ j. mul y (add (wanted j) (r.rhs j)) in
            let (x, s, c) = exists F t w b ech (λ j. unit F k (v j)) in (
              x,
              s,
              λ j m.
                  sym (asks_gap a x j m) ∙ sym (h.agree x s j m)
                  ∙ ap (λ a. add a (neg (r.rhs j))) (at_one_place x j k (v j) l d (λ n o f. c j n o f) ∙ undo F _ _ _ i)
                  ∙ simp (add_assoc, add_neg, add_zero),
            )

  module _ (P : Assignment V → Type 0) (b : Basis V) (known : Knows F t w P b) (e r : Row V) (h : Reduced F t w b e t r) where
    pub knows_decided : {g : ℕ → V} → Asks F t w g e → ((k : ℕ) → k < t → r.coef k ≡ zero) → Means F t w P g (decided (λ j. neg (r.rhs j)))
    knows_decided a z =
        let (x, s, c) = exists F t w b known.echelon (λ j k. zero) in
        ((x, (known.same x).0 s), λ y p. form_decided b e r h a z y ((known.same y).1 p))

    pub knows_undecided : {g : ℕ → V} → Asks F t w g e → (k : ℕ) → k < t → r.coef k ≢ zero → Means F t w P g undecided
    knows_undecided a k l d wanted =
        let (x, s, c) = open_to_all b e r h a known.echelon k l d wanted in
        (x, (known.same x).0 s, c)

  unfoldable pub verdict : (es : List (Row V)) (g : ℕ → V) → (v : Verdict V) × Means F t w (AllHold F t w es) g v
  verdict es g =
      elim (run F t w es) [
        | inl never ↦ (contradictory, never)
        | inr (b, known) ↦
            let e : Row V = record { coef = g; rhs = λ j. zero } in
            let asks : Asks F t w g e = record { coefs = λ k l. refl; rhss = λ j l. refl } in
            let (r, h) = reduce F t w b known.echelon e t (omega arith) in
            elim (first F t w t r.coef) [
              | inl z ↦ (decided _, knows_decided _ b known e r h asks z)
              | inr f ↦ (undecided, knows_undecided _ b known e r h asks f.place f.within (inverse_not_zero F _ _ f.inverts))
            ]
      ]
