-- What the laws of a field give.
--   zero_add, add_left_comm, interchange, add_cancel    sums
--   neg_add, take_back, put_back, neg_unique, neg_zero, neg_neg, neg_of_add    sums and negations
--   mul_zero, zero_mul, one_mul, mul_neg, neg_mul, add_mul    products
--   same_of_gap, gap_of_same    two elements are one just if their difference is zero
--   inverse_not_zero, undo    inverses
-- Assumes nothing.
use Rattle.std.proofs.Common.{◌≡◌, sym, ap, ◌∙◌, ap₂}
use Rattle.linear.proofs.Fields.{Field}

module _ {V : Type 0} (F : Field V) where
  open F use {zero, one, add, neg, mul, add_assoc, add_comm, add_zero, add_neg, mul_assoc, mul_comm, mul_one, mul_add, zero_not_one}

  pub zero_add : (a : V) → add zero a ≡ a
  zero_add a = add_comm zero a ∙ add_zero a

  pub neg_add : (a : V) → add (neg a) a ≡ zero
  neg_add a = add_comm (neg a) a ∙ add_neg a

  pub add_left_comm : (a b c : V) → add a (add b c) ≡ add b (add a c)
  add_left_comm a b c = sym (add_assoc a b c) ∙ ap (λ x. add x c) (add_comm a b) ∙ add_assoc b a c

  pub interchange : (a b c d : V) → add (add a b) (add c d) ≡ add (add a c) (add b d)
  interchange a b c d = simp (add_assoc, add_left_comm)

  pub take_back : (a b : V) → add a (add (neg a) b) ≡ b
  take_back a b = sym (add_assoc a (neg a) b) ∙ ap (λ x. add x b) (add_neg a) ∙ zero_add b

  pub put_back : (a b : V) → add (neg a) (add a b) ≡ b
  put_back a b = sym (add_assoc (neg a) a b) ∙ ap (λ x. add x b) (neg_add a) ∙ zero_add b

  pub add_cancel : (a b c : V) → add a b ≡ add a c → b ≡ c
  add_cancel a b c e = sym (put_back a b) ∙ ap (add (neg a)) e ∙ put_back a c

  pub neg_unique : (a b : V) → add a b ≡ zero → b ≡ neg a
  neg_unique a b e = add_cancel a b (neg a) (e ∙ sym (add_neg a))

  pub neg_zero : neg zero ≡ zero
  neg_zero = sym (neg_unique zero zero (add_zero zero))

  pub neg_neg : (a : V) → neg (neg a) ≡ a
  neg_neg a = sym (neg_unique (neg a) a (neg_add a))

  pub neg_of_add : (a b : V) → neg (add a b) ≡ add (neg a) (neg b)
  neg_of_add a b = sym (neg_unique (add a b) (add (neg a) (neg b)) (interchange a b (neg a) (neg b) ∙ ap₂ add (add_neg a) (add_neg b) ∙ add_zero zero))

  pub mul_zero : (a : V) → mul a zero ≡ zero
  mul_zero a = sym (add_cancel (mul a zero) zero (mul a zero) (add_zero _ ∙ ap (mul a) (sym (add_zero zero)) ∙ mul_add a zero zero))

  pub zero_mul : (a : V) → mul zero a ≡ zero
  zero_mul a = mul_comm zero a ∙ mul_zero a

  pub one_mul : (a : V) → mul one a ≡ a
  one_mul a = mul_comm one a ∙ mul_one a

  pub mul_neg : (a b : V) → mul a (neg b) ≡ neg (mul a b)
  mul_neg a b = neg_unique (mul a b) (mul a (neg b)) (sym (mul_add a b (neg b)) ∙ ap (mul a) (add_neg b) ∙ mul_zero a)

  pub add_mul : (a b c : V) → mul (add a b) c ≡ add (mul a c) (mul b c)
  add_mul a b c = mul_comm (add a b) c ∙ mul_add c a b ∙ ap₂ add (mul_comm c a) (mul_comm c b)

  pub neg_mul : (a b : V) → mul (neg a) b ≡ neg (mul a b)
  neg_mul a b = mul_comm (neg a) b ∙ mul_neg b a ∙ ap neg (mul_comm b a)

  pub same_of_gap : (a b : V) → add a (neg b) ≡ zero → a ≡ b
  same_of_gap a b e = sym (neg_neg a) ∙ ap neg (sym (neg_unique a (neg b) e)) ∙ neg_neg b

  pub gap_of_same : (a b : V) → a ≡ b → add a (neg b) ≡ zero
  gap_of_same a b e = ap (λ x. add x (neg b)) e ∙ add_neg b

  pub inverse_not_zero : (a b : V) → mul a b ≡ one → ¬ (a ≡ zero)
  inverse_not_zero a b e z = zero_not_one (sym (zero_mul b) ∙ ap (λ x. mul x b) (sym z) ∙ e)

  -- what an inverse undoes
  pub undo : (a b c : V) → mul a b ≡ one → mul a (mul b c) ≡ c
  undo a b c e = sym (mul_assoc a b c) ∙ ap (λ x. mul x c) e ∙ one_mul c
