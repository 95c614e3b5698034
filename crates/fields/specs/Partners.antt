-- What an inverse is, in any multiplication of numbers.
--   partner    a number below n whose product with a is one, if there is one
-- Assumes nothing.
use Rattle.std.specs.Prelude.{ℕ, zero, suc, cond, Some, None, Option, ◌==◌}

unfoldable pub partner : (ℕ → ℕ → ℕ) → ℕ → ℕ → Option ℕ
partner mul zero a = None
partner mul (suc n) a = cond (mul a n == 1) (Some n) (partner mul n a)
