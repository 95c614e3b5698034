-- Sums and dot products over the places below n.
--   sum_ext, sum_zero, sum_add, sum_mul, sum_single    equal summands, zeros, a sum of sums, a factor, one summand
--   dot_ext, dot_zero, dot_single, dot_add, add_dot, mul_dot, less_dot    the same of dot products
-- Assumes nothing.
use Rattle.std.proofs.Common.{◌≡◌, ℕ, suc, ◌<◌, ◌≢◌, sym, refl, ap, ◌∙◌, ap₂, arith}
use Prim.Native.Nat as nat
use native.Mathlib.Decide.{ℕ_discrete}
use Rattle.linear.proofs.Fields.{Field, sum, dot}
use Rattle.linear.proofs.Values.{zero_add, interchange, mul_zero, zero_mul, add_mul, neg_mul}

module _ {V : Type 0} (F : Field V) where
  open F use {zero, add, neg, mul, add_zero, mul_assoc, mul_add}

  pub sum_ext : (n : ℕ) (f g : ℕ → V) → ((k : ℕ) → k < n → f k ≡ g k) → sum F n f ≡ sum F n g
  sum_ext nat.zero f g h = refl
  sum_ext (suc n) f g h = ap₂ add (sum_ext n f g (λ k l. h k (omega arith))) (h n (omega arith))

  pub sum_zero : (n : ℕ) (f : ℕ → V) → ((k : ℕ) → k < n → f k ≡ zero) → sum F n f ≡ zero
  sum_zero nat.zero f h = refl
  sum_zero (suc n) f h = ap₂ add (sum_zero n f (λ k l. h k (omega arith))) (h n (omega arith)) ∙ add_zero zero

  pub sum_add : (n : ℕ) (f g : ℕ → V) → sum F n (λ k. add (f k) (g k)) ≡ add (sum F n f) (sum F n g)
  sum_add nat.zero f g = sym (add_zero zero)
  sum_add (suc n) f g = ap (λ s. add s (add (f n) (g n))) (sum_add n f g) ∙ interchange F (sum F n f) (sum F n g) (f n) (g n)

  pub sum_mul : (n : ℕ) (c : V) (f : ℕ → V) → sum F n (λ k. mul c (f k)) ≡ mul c (sum F n f)
  sum_mul nat.zero c f = sym (mul_zero F c)
  sum_mul (suc n) c f = ap (λ s. add s (mul c (f n))) (sum_mul n c f) ∙ sym (mul_add c (sum F n f) (f n))

  -- a sum all of whose places but p are zero
  pub sum_single : (n : ℕ) (f : ℕ → V) (p : ℕ) → p < n → ((k : ℕ) → k < n → k ≢ p → f k ≡ zero) → sum F n f ≡ f p
  sum_single nat.zero f p l h = absurd (omega arith)
  sum_single (suc n) f p l h =
      elim (ℕ_discrete n p) [
        | yes e ↦ ap₂ add (sum_zero n f (λ k m. h k (omega arith) (omega arith))) (ap f e) ∙ zero_add F (f p)
        | no d ↦ ap₂ add (sum_single n f p (omega arith) (λ k m. h k (omega arith))) (h n (omega arith) d) ∙ add_zero (f p)
      ]

  pub dot_ext : (n : ℕ) (r s x y : ℕ → V) → ((k : ℕ) → k < n → r k ≡ s k) → ((k : ℕ) → k < n → x k ≡ y k) → dot F n r x ≡ dot F n s y
  unfolding dot
  dot_ext n r s x y f g = sum_ext n _ _ (λ k l. ap₂ mul (f k l) (g k l))

  pub dot_zero : (n : ℕ) (r x : ℕ → V) → ((k : ℕ) → k < n → r k ≡ zero) → dot F n r x ≡ zero
  unfolding dot
  dot_zero n r x h = sum_zero n _ (λ k l. ap (λ a. mul a (x k)) (h k l) ∙ zero_mul F (x k))

  pub dot_single : (n : ℕ) (r x : ℕ → V) (p : ℕ) → p < n → ((k : ℕ) → k < n → k ≢ p → mul (r k) (x k) ≡ zero) → dot F n r x ≡ mul (r p) (x p)
  unfolding dot
  dot_single n r x p l h = sum_single n (λ k. mul (r k) (x k)) p l h

  pub dot_add : (n : ℕ) (r x y : ℕ → V) → dot F n r (λ k. add (x k) (y k)) ≡ add (dot F n r x) (dot F n r y)
  unfolding dot
  dot_add n r x y = sum_ext n _ _ (λ k l. mul_add (r k) (x k) (y k)) ∙ sum_add n _ _

  pub add_dot : (n : ℕ) (r s x : ℕ → V) → dot F n (λ k. add (r k) (s k)) x ≡ add (dot F n r x) (dot F n s x)
  unfolding dot
  add_dot n r s x = sum_ext n _ _ (λ k l. add_mul F (r k) (s k) (x k)) ∙ sum_add n _ _

  pub mul_dot : (n : ℕ) (c : V) (r x : ℕ → V) → dot F n (λ k. mul c (r k)) x ≡ mul c (dot F n r x)
  unfolding dot
  mul_dot n c r x = sum_ext n _ _ (λ k l. mul_assoc c (r k) (x k)) ∙ sum_mul n c _

  pub less_dot : (n : ℕ) (c : V) (r s x : ℕ → V) → dot F n (λ k. add (r k) (neg (mul c (s k)))) x ≡ add (dot F n r x) (neg (mul c (dot F n s x)))
  less_dot n c r s x =
      dot_ext n _ _ x x (λ k l. ap (add (r k)) (sym (neg_mul F c (s k)))) (λ k l. refl)
      ∙ add_dot n r (λ k. mul (neg c) (s k)) x
      ∙ ap (add (dot F n r x)) (mul_dot n (neg c) s x ∙ neg_mul F c (dot F n s x))
