-- A field as a set of values with two operations, the laws of arithmetic, and an inverse of each value but zero.
--   Field    the values and the laws
--   sum      the sum of the first n values of a function
--   dot      the sum of the products of coefficients and values
-- Assumes nothing.
use Rattle.std.proofs.Common.{◌≡◌, ℕ, suc, ◌⊎◌}
use Prim.Native.Nat as nat

pub record Field (V : Type 0) : Type 0 where
  pub zero : V
  pub one : V
  pub add : V → V → V
  pub neg : V → V
  pub mul : V → V → V
  pub add_assoc : (a b c : V) → add (add a b) c ≡ add a (add b c)
  pub add_comm : (a b : V) → add a b ≡ add b a
  pub add_zero : (a : V) → add a zero ≡ a
  pub add_neg : (a : V) → add a (neg a) ≡ zero
  pub mul_assoc : (a b c : V) → mul (mul a b) c ≡ mul a (mul b c)
  pub mul_comm : (a b : V) → mul a b ≡ mul b a
  pub mul_one : (a : V) → mul a one ≡ a
  pub mul_add : (a b c : V) → mul a (add b c) ≡ add (mul a b) (mul a c)
  pub zero_not_one : ¬ (zero ≡ one)
  pub inverse : (a : V) → (a ≡ zero) ⊎ ((b : V) × (mul a b ≡ one))

module _ {V : Type 0} (F : Field V) where
  open F use {zero, add, mul}

  -- f 0 + f 1 + .. + f (n - 1)
  abbrev pub sum : ℕ → (ℕ → V) → V
  sum nat.zero f = zero
  sum (suc n) f = add (sum n f) (f n)

  unfoldable pub dot : ℕ → (ℕ → V) → (ℕ → V) → V
  dot n r x = sum n (λ k. mul (r k) (x k))
