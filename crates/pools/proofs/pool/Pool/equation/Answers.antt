use Rattle.std.proofs.Common.{◌≡◌, ℕ, List, ◌++◌, drop, replicate, get_or, ap, ◌∙◌, arith}
use lib.ListN.{get_or-eq_default}
use Rattle.std.proofs.lemmas.Grind.{elements}
use Rattle.sharing.proofs.Places.{zeros_at}
use Rattle.pools.proofs.pool.Pool.equation.Goals as goal

-- what stands in a list with zeros after it
padded : (values : List ℕ) (k n j : ℕ) → get_or (values ++ drop k (replicate n 0)) j 0 ≡ get_or values j 0
padded values k n j = grind (arith, elements, zeros_at, get_or-eq_default)

pub returns : goal.returns
returns g c =
    rw (← c.self.view_is, ← c.card.view_is)
    (record {
      left = c.multipliers.ensures.each;
      right = λ j l.
          ap (λ xs. get_or (xs ++ drop c.len.result (replicate 16 0)) j 0) (c.copy_from_slice.ensures.after ∙ c.deref.ensures.0)
          ∙ padded c.card.inside.values.items c.len.result 16 j;
    })
