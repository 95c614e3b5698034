-- Conditions in their order, and the commonest of them.
--   first_none     no condition holds
--   right_id       an id that is some element but zero
--   right_count    a count that is neither 0 nor past a limit
-- Assumes nothing.
use Rattle.std.proofs.Common.{◌≡◌, ℕ, ◌<◌, ◌≤◌, Bool, true, false, ◌||◌, eqb, ltb, leb, List, [], ◌∷◌, None, refl, arith}
use Rattle.std.proofs.lemmas.Bool.Decides.{nat_tests}
use Rattle.sharing.specs.Cards.{Every}
use Rattle.sharing.specs.Refusals.{first}

pub first_none : (cs : List (Bool × ℕ)) → first cs ≡ None → Every (λ c. c.0 ≡ false) cs
first_none [] e = tt
first_none ((true, n) ∷ cs) e = let z : ◌≡◌ {A = ℕ} 0 1 = cc in absurd (omega arith)
first_none ((false, n) ∷ cs) e = (refl, first_none cs e)

pub right_id : (id size : ℕ) → (id ≡ 0 → ⊥) → id < size → (eqb id 0 || leb size id) ≡ false
right_id id size d l = grind (arith, nat_tests)

pub right_count : (n most : ℕ) → (n ≡ 0 → ⊥) → n ≤ most → (eqb n 0 || ltb most n) ≡ false
right_count n most d l = grind (arith, nat_tests)
