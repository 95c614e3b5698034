-- A byte's product is linear in each factor: exclusive or goes through it.
--   swap, if_set_value    exclusive or of four numbers in another order, and under `if_set`
--   xtime_xor             exclusive or goes through multiplying by x
--   left, right           the product is linear in its first factor and in its second
--   Linear, at_zero       what linear means, and that zero goes to zero
--   agree                 two linear functions that agree on the powers of x agree
-- Assumes nothing.
use Rattle.std.specs.Prelude.{◌≡◌, ℕ, zero, suc, ◌*◌, ◌/◌, ◌%◌, ◌^◌, ◌<◌, bit_xor, refl}
use Rattle.std.proofs.Common.{sym, ap, ap₂, ◌∙◌, subst, add-zero, mod-lt, zero-mul, one-mul, not-suc-le-zero, le_of_suc-le-suc, div-lt_iff_lt-mul, pow-suc, mul_comm, lt-suc_self, lt_trans, pow_pos, lit<}
use Rattle.std.specs.Int.Bits.{xor_assoc, xor_self, xor_zero_r, xor_shifted}
use Rattle.std.proofs.lemmas.Nat.{xor_comm, xor_shr, xor_mod, xor_block}
use Rattle.std.proofs.Math.Arith.{lt-one}
use Rattle.std.proofs.Math.Pow.{split}
use Rattle.fields.specs.Bytes.{if_set, xtime, shifted, product, multiply}

pub swap : (p q r s : ℕ) → bit_xor (bit_xor p q) (bit_xor r s) ≡ bit_xor (bit_xor p r) (bit_xor q s)
swap p q r s =
    xor_assoc p q (bit_xor r s)
    ∙ ap (bit_xor p) (sym (xor_assoc q r s) ∙ ap (λ (x : ℕ). bit_xor x s) (xor_comm q r) ∙ xor_assoc r q s)
    ∙ sym (xor_assoc p r (bit_xor q s))

pub if_set_value : (p a b : ℕ) → if_set p (bit_xor a b) ≡ bit_xor (if_set p a) (if_set p b)
unfolding if_set
if_set_value zero a b = refl
if_set_value (suc p) a b = refl

if_set_bit : (p q a : ℕ) → p < 2 → q < 2 → if_set (bit_xor p q) a ≡ bit_xor (if_set p a) (if_set q a)
unfolding if_set
if_set_bit zero q a hp hq = refl
if_set_bit (suc zero) zero a hp hq = sym (xor_zero_r a)
if_set_bit (suc zero) (suc zero) a hp hq = sym (xor_self a)
if_set_bit (suc zero) (suc (suc q)) a hp hq = absurd (not-suc-le-zero (le_of_suc-le-suc (le_of_suc-le-suc hq)))
if_set_bit (suc (suc p)) q a hp hq = absurd (not-suc-le-zero (le_of_suc-le-suc (le_of_suc-le-suc hp)))

bit : (b i c : ℕ) → bit_xor b c / 2 ^ i % 2 ≡ bit_xor (b / 2 ^ i % 2) (c / 2 ^ i % 2)
bit b i c = ap (λ (x : ℕ). x % 2) (xor_shr b c i) ∙ xor_mod (b / 2 ^ i) (c / 2 ^ i) 1

set_at : (b c i a : ℕ) → if_set (bit_xor b c / 2 ^ i % 2) a ≡ bit_xor (if_set (b / 2 ^ i % 2) a) (if_set (c / 2 ^ i % 2) a)
set_at b c i a =
    ap (λ (x : ℕ). if_set x a) (bit b i c)
    ∙ if_set_bit (b / 2 ^ i % 2) (c / 2 ^ i % 2) a (mod-lt (b / 2 ^ i) (lit< tt)) (mod-lt (c / 2 ^ i) (lit< tt))

doubled : (a b : ℕ) → bit_xor a b * 2 ≡ bit_xor (a * 2) (b * 2)
doubled a b =
    sym (add-zero (bit_xor a b * 2)) ∙ sym (xor_block 1 a b 0 0 (lit< tt) (lit< tt))
    ∙ ap₂ bit_xor (add-zero (a * 2)) (add-zero (b * 2))

pub xtime_xor : (a b : ℕ) → xtime (bit_xor a b) ≡ bit_xor (xtime a) (xtime b)
unfolding xtime
xtime_xor a b =
    ap₂ bit_xor (ap (λ (x : ℕ). x % 256) (doubled a b) ∙ xor_mod (a * 2) (b * 2) 8) (set_at a b 7 0x1b)
    ∙ swap (a * 2 % 256) (b * 2 % 256) (if_set (a / 128 % 2) 0x1b) (if_set (b / 128 % 2) 0x1b)

shifted_xor : (i a b : ℕ) → shifted i (bit_xor a b) ≡ bit_xor (shifted i a) (shifted i b)
unfolding shifted
shifted_xor zero a b = refl
shifted_xor (suc i) a b = ap xtime (shifted_xor i a b) ∙ xtime_xor (shifted i a) (shifted i b)

product_left : (n a b c : ℕ) → product n (bit_xor a b) c ≡ bit_xor (product n a c) (product n b c)
unfolding product
product_left zero a b c = refl
product_left (suc i) a b c =
    ap₂ bit_xor (product_left i a b c)
    (ap (if_set (c / 2 ^ i % 2)) (shifted_xor i a b) ∙ if_set_value (c / 2 ^ i % 2) (shifted i a) (shifted i b))
    ∙ swap (product i a c) (product i b c) (if_set (c / 2 ^ i % 2) (shifted i a)) (if_set (c / 2 ^ i % 2) (shifted i b))

product_right : (n a b c : ℕ) → product n a (bit_xor b c) ≡ bit_xor (product n a b) (product n a c)
unfolding product
product_right zero a b c = refl
product_right (suc i) a b c =
    ap₂ bit_xor (product_right i a b c) (set_at b c i (shifted i a))
    ∙ swap (product i a b) (product i a c) (if_set (b / 2 ^ i % 2) (shifted i a)) (if_set (c / 2 ^ i % 2) (shifted i a))

pub left : (a b c : ℕ) → multiply (bit_xor a b) c ≡ bit_xor (multiply a c) (multiply b c)
unfolding multiply
left a b c = ap (λ (x : ℕ). product 8 x (c % 256)) (xor_mod a b 8) ∙ product_left 8 (a % 256) (b % 256) (c % 256)

pub right : (a b c : ℕ) → multiply a (bit_xor b c) ≡ bit_xor (multiply a b) (multiply a c)
unfolding multiply
right a b c = ap (product 8 (a % 256)) (xor_mod b c 8) ∙ product_right 8 (a % 256) (b % 256) (c % 256)

-- ---- two linear functions are one if they agree on the powers of x

abbrev pub Linear : (ℕ → ℕ) → Type 0
Linear f = (a b : ℕ) → f (bit_xor a b) ≡ bit_xor (f a) (f b)

pub at_zero : (f : ℕ → ℕ) → Linear f → f 0 ≡ 0
at_zero f l = l 0 0 ∙ xor_self (f 0)

parts : (n x : ℕ) → bit_xor (x / 2 ^ n * 2 ^ n) (x % 2 ^ n) ≡ x
parts n x = xor_shifted (x / 2 ^ n) n (x % 2 ^ n) (mod-lt x (pow_pos n)) ∙ split x n

module _ (f g : ℕ → ℕ) (lf : Linear f) (lg : Linear g) where
  top : (n t : ℕ) → t < 2 → f (2 ^ n) ≡ g (2 ^ n) → f (t * 2 ^ n) ≡ g (t * 2 ^ n)
  top n zero h e = ap f (zero-mul (2 ^ n)) ∙ at_zero f lf ∙ sym (at_zero g lg) ∙ ap g (sym (zero-mul (2 ^ n)))
  top n (suc zero) h e = ap f (one-mul (2 ^ n)) ∙ e ∙ ap g (sym (one-mul (2 ^ n)))
  top n (suc (suc t)) h e = absurd (not-suc-le-zero (le_of_suc-le-suc (le_of_suc-le-suc h)))

  pub agree : (n : ℕ) → ((i : ℕ) → i < n → f (2 ^ i) ≡ g (2 ^ i)) → (x : ℕ) → x < 2 ^ n → f x ≡ g x
  agree zero h x hx = ap f (lt-one hx) ∙ at_zero f lf ∙ sym (at_zero g lg) ∙ ap g (sym (lt-one hx))
  agree (suc n) h x hx =
      let t : x / 2 ^ n < 2 = (div-lt_iff_lt-mul (pow_pos n)).1 (subst (λ (m : ℕ). x < m) (pow-suc 2 n ∙ mul_comm (2 ^ n) 2) hx) in
      ap f (sym (parts n x)) ∙ lf (x / 2 ^ n * 2 ^ n) (x % 2 ^ n)
      ∙ ap₂ bit_xor (top n (x / 2 ^ n) t (h n (lt-suc_self n))) (agree n (λ i k. h i (lt_trans k (lt-suc_self n))) (x % 2 ^ n) (mod-lt x (pow_pos n)))
      ∙ sym (lg (x / 2 ^ n * 2 ^ n) (x % 2 ^ n)) ∙ ap g (parts n x)
