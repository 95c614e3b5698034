-- Sums in a field.
--   sum    the sum of f k over the numbers k below n
-- Assumes nothing.
use Rattle.std.specs.Prelude.{ℕ, zero, suc}
use Rattle.fields.specs.Arithmetic.{Arithmetic}

abbrev pub sum : Arithmetic → ℕ → (ℕ → ℕ) → ℕ
sum F zero f = 0
sum F (suc n) f = F.add (sum F n f) (f n)
