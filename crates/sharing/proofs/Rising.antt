-- What it says of thresholds that none is misplaced.
--   somewhere_none, somewhere_here    a test that no number below n meets, or that one meets
--   Placed, placed, well_placed       a threshold that is not misplaced, in numbers
--   ranged                            each threshold is from 1 to 32
--   climbs, at_most_top               a later threshold is no smaller, so none is above the last
--   placed_next                       one more threshold that rises above the one before
--   misplaced_here                    a threshold that does not
-- Assumes nothing.
use Rattle.std.proofs.Common.{◌≡◌, ℕ, zero, suc, ◌+◌, ◌-◌, ◌<◌, ◌≤◌, Bool, true, false, List, length, get_or, sym, refl, ap, ◌∙◌, add-one, arith}
use native.Mathlib.Decide.{ℕ_discrete}
use Rattle.std.proofs.lemmas.Bool.{or_parts, or_left, or_right, or_from}
use Rattle.std.proofs.lemmas.Bool.Decides.{nat_tests}
use Rattle.sharing.specs.Cards.{top}
use Rattle.sharing.specs.Refusals.{somewhere, misplaced, disordered}

pub somewhere_none : (n : ℕ) (p : ℕ → Bool) → somewhere n p ≡ false → (k : ℕ) → k < n → p k ≡ false
somewhere_none zero p e k l = absurd (omega arith)
somewhere_none (suc n) p e k l =
    let parts = or_parts (somewhere n p) (p n) e in
    elim (ℕ_discrete k n) [
      | yes i ↦ ap p i ∙ parts.1
      | no d ↦ somewhere_none n p parts.0 k (omega arith)
    ]

pub somewhere_here : (n : ℕ) (p : ℕ → Bool) (k : ℕ) → k < n → p k ≡ true → somewhere n p ≡ true
somewhere_here zero p k l e = absurd (omega arith)
somewhere_here (suc n) p k l e =
    elim (ℕ_discrete k n) [
      | yes i ↦ or_right (somewhere n p) (p n) (ap p (sym i) ∙ e)
      | no d ↦ or_left (somewhere n p) (p n) (somewhere_here n p k (omega arith) e)
    ]

-- a threshold in its place: the level's number, its threshold and the one before
pub record Placed (level t before : ℕ) : Type 0 where
  pub some : 1 ≤ t
  pub few : t ≤ 32
  pub above : 0 < level → before < t

pub placed : (ts : List ℕ) (level : ℕ) → misplaced ts level ≡ false → Placed level (get_or ts level 0) (get_or ts (level - 1) 0)
placed ts level e = record { some = grind (arith, nat_tests); few = grind (arith, nat_tests); above = λ l. grind (arith, nat_tests) }

pub well_placed : (ts : List ℕ) (level : ℕ) → Placed level (get_or ts level 0) (get_or ts (level - 1) 0) → misplaced ts level ≡ false
well_placed ts level h = let a = h.above in let b = h.some in let c = h.few in grind (arith, nat_tests)

module _ (ts : List ℕ) (h : disordered ts ≡ false) where
  pub ranged : (level : ℕ) → level < length ts → (1 ≤ get_or ts level 0) × (get_or ts level 0 ≤ 32)
  ranged level l = let p = placed ts level (somewhere_none (length ts) (misplaced ts) h level l) in (p.some, p.few)

  pub climbs : (n level : ℕ) → level + n < length ts → get_or ts level 0 ≤ get_or ts (level + n) 0
  climbs zero level l = let e : level + 0 ≡ level = omega arith in rw e (omega arith)
  climbs (suc n) level l =
      let p = placed ts (level + suc n) (somewhere_none (length ts) (misplaced ts) h (level + suc n) l) in
      let e : level + suc n - 1 ≡ level + n = omega arith in
      let a = rw e at (p.above (omega arith)) in
      let b = climbs n level (omega arith) in
      omega arith

  pub at_most_top : (level : ℕ) → level < length ts → get_or ts level 0 ≤ top ts
  at_most_top level l =
      let e : level + (length ts - 1 - level) ≡ length ts - 1 = omega arith in
      rw e at (climbs (length ts - 1 - level) level (omega arith))

-- one more threshold, by the last one seen, which is 0 before the first
pub placed_next : (ts : List ℕ) (i last : ℕ) → somewhere i (misplaced ts) ≡ false
    → (1 ≤ i → last ≡ get_or ts (i - 1) 0) → last < get_or ts i 0 → get_or ts i 0 ≤ 32 → somewhere (i + 1) (misplaced ts) ≡ false
placed_next ts i last e before a b =
    ap (λ n. somewhere n (misplaced ts)) (add-one i)
    ∙ or_from (somewhere i (misplaced ts)) (misplaced ts i) e
    (well_placed ts i (record { some = omega arith; few = b; above = λ l. omega (arith, before l) }))

-- a threshold that is not above the last one seen, or is too large
pub misplaced_here : (ts : List ℕ) (i last : ℕ) → i < length ts
    → (1 ≤ i → last ≡ get_or ts (i - 1) 0) → (i ≡ 0 → last ≡ 0) → (last < get_or ts i 0 → get_or ts i 0 ≤ 32 → ⊥) → disordered ts ≡ true
misplaced_here ts i last l before start wrong = somewhere_here (length ts) (misplaced ts) i l (go (misplaced ts i) refl)
  where
    go : (b : Bool) → misplaced ts i ≡ b → misplaced ts i ≡ true
    go true e = e
    go false e =
        let p = placed ts i e in
        absurd (elim (ℕ_discrete i 0) [
          | yes z ↦ wrong (omega (arith, start z, p.some)) p.few
          | no d ↦ wrong (omega (arith, before (omega arith), p.above (omega arith))) p.few
        ])
