-- The elements of a finite field, told by the numbers below its size, as a field.
--   Code                a number below the size, with the proof that it is
--   el                  the code that a number is read as
--   code_path, el_number, el_of, el_same    codes are equal where their numbers are
--   field_of            the field of the codes
--   zero_number, one_number    the numbers of zero and one
--   el_add, el_mul, el_neg, el_zero, el_one    what is done with numbers is done with their codes
-- Assumes nothing.
use Rattle.std.proofs.Common.{◌≡◌, ℕ, ◌%◌, ◌<◌, sym, refl, ap, ◌∙◌, inl, inr, mod-lt, mod-eq_of_lt, arith}
use native.Mathlib.Fin
use native.Mathlib.Decide.{ℕ_discrete}
use Rattle.fields.specs.Arithmetic.{Arithmetic, Laws}
use Rattle.linear.proofs.Fields.{Field}

-- a number below the size, with the proof that it is
abbrev pub Code : Arithmetic → Type 0
Code A = (n : ℕ) × (n < A.size)

module _ (A : Arithmetic) (L : Laws A) where
  -- the code that a number is read as: itself, where it is below the size
  unfoldable pub el : ℕ → Code A
  el n = (n % A.size, mod-lt n {m = A.size} (omega (arith, L.two_elements)))

  pub code_path : (x y : Code A) → x.0 ≡ y.0 → x ≡ y
  code_path x y p = Fin.val_path {n = A.size} {i = x} {j = y} p

  pub el_number : (n : ℕ) → n < A.size → (el n).0 ≡ n
  unfolding el
  el_number n l = mod-eq_of_lt l

  pub zero_number : (el 0).0 ≡ 0
  zero_number = el_number 0 (omega (arith, L.two_elements))

  pub one_number : (el 1).0 ≡ 1
  one_number = el_number 1 (omega (arith, L.two_elements))

  pub el_of : (x : Code A) → el x.0 ≡ x
  el_of x = code_path _ _ (el_number x.0 x.1)

  pub el_same : (a b : ℕ) → a < A.size → b < A.size → el a ≡ el b → a ≡ b
  el_same a b h k e = sym (el_number a h) ∙ ap (λ (x : Code A). x.0) e ∙ el_number b k

  unfoldable pub field_of : Field (Code A)
  field_of = record {
    zero = el 0;
    one = el 1;
    add = λ a b. (A.add a.0 b.0, L.add_below a.0 b.0);
    neg = λ a. (A.neg a.0, L.neg_below a.0);
    mul = λ a b. (A.mul a.0 b.0, L.mul_below a.0 b.0);
    add_assoc = λ a b c. code_path _ _ (L.add_assoc a.0 b.0 c.0 a.1 b.1 c.1);
    add_comm = λ a b. code_path _ _ (L.add_comm a.0 b.0 a.1 b.1);
    add_zero = λ a. code_path _ _ (ap (A.add a.0) zero_number ∙ L.add_zero a.0 a.1);
    add_neg = λ a. code_path _ _ (L.add_neg a.0 a.1 ∙ sym zero_number);
    mul_assoc = λ a b c. code_path _ _ (L.mul_assoc a.0 b.0 c.0 a.1 b.1 c.1);
    mul_comm = λ a b. code_path _ _ (L.mul_comm a.0 b.0 a.1 b.1);
    mul_one = λ a. code_path _ _ (ap (A.mul a.0) one_number ∙ L.mul_one a.0 a.1);
    mul_add = λ a b c. code_path _ _ (L.distributes a.0 b.0 c.0 a.1 b.1 c.1);
    zero_not_one = λ e. let z : ◌≡◌ {A = ℕ} 0 1 = sym zero_number ∙ ap (λ (x : Code A). x.0) e ∙ one_number in omega arith;
    inverse = λ a. elim (ℕ_discrete a.0 0) [
      | yes e ↦ inl (code_path _ _ (e ∙ sym zero_number))
      | no d ↦ let (b, i, o) = L.others_have_one a.0 a.1 d in inr ((b, L.inv_below a.0 b i), code_path _ _ (o ∙ sym one_number))
    ];
  }

  -- of any numbers, since those that are too large are read as their remainders
  pub el_add : (a b : ℕ) → el (A.add a b) ≡ field_of.add (el a) (el b)
  unfolding field_of el
  el_add a b = code_path _ _ (mod-eq_of_lt (L.add_below a b) ∙ L.add_reads a b)

  pub el_mul : (a b : ℕ) → el (A.mul a b) ≡ field_of.mul (el a) (el b)
  unfolding field_of el
  el_mul a b = code_path _ _ (mod-eq_of_lt (L.mul_below a b) ∙ L.mul_reads a b)

  pub el_neg : (a : ℕ) → el (A.neg a) ≡ field_of.neg (el a)
  unfolding field_of el
  el_neg a = code_path _ _ (mod-eq_of_lt (L.neg_below a) ∙ L.neg_reads a)

  pub el_zero : el 0 ≡ field_of.zero
  unfolding field_of
  el_zero = refl

  pub el_one : el 1 ≡ field_of.one
  unfolding field_of
  el_one = refl
