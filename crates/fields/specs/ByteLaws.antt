-- The bytes are a field: the laws of multiplying hold at the powers of x, which the checker computes, and go on to every byte,
-- since both sides are linear.
--   low, add_below, xtime_below, shifted_below, multiply_below    each is a byte
--   add_assoc                                     sums may be taken in any order
--   multiply_comm, multiply_assoc, distributes    the laws of the product
--   multiply_one, one_multiply                    one is neutral
--   inverse_reads, inverse_none_zero              inverses read numbers by their remainders; zero has none
--   inverse_of                                    the inverse of any other byte is its power 254
--   byte_lawful                                   the laws
-- Assumes nothing.
use Rattle.std.specs.Prelude.{◌≡◌, ℕ, zero, suc, ◌*◌, ◌/◌, ◌%◌, ◌^◌, ◌<◌, Bool, T, Some, None, ◌==◌, ◌≢◌, bit_xor, nat_eq, refl}
use Rattle.std.proofs.Common.{ap, ap₂, sym, ◌∙◌, mod-lt, mod-eq_of_lt, arith, eqb→eq, lit<, lit≤}
use Rattle.std.proofs.Math.Nat.{mod-mod}
use Rattle.std.specs.Int.Bits.{xor_assoc, xor_self, xor_zero_r}
use Rattle.std.proofs.lemmas.Nat.{xor_comm, xor_lt}
use Rattle.fields.specs.Arithmetic.{Laws}
use Rattle.fields.specs.Bytes.{if_set, xtime, shifted, product, add, multiply, bytes}
use Rattle.fields.specs.Each.{each, at}
use Rattle.fields.specs.Linear.{left, right, agree, at_zero}
use Rattle.fields.specs.PartnersLemmas.{found, only, none, same}
use Rattle.fields.specs.Powers.{reads, reads_left, chain, power254, power254_inverts}

-- ---- bounds

pub low : (a : ℕ) → a % 256 < 256
low a = mod-lt a (lit< tt)

if_set_below : (p a : ℕ) → a < 256 → if_set p a < 256
unfolding if_set
if_set_below zero a h = lit< tt
if_set_below (suc p) a h = h

pub xtime_below : (a : ℕ) → xtime a < 256
unfolding xtime
xtime_below a = xor_lt 8 (a * 2 % 256) (if_set (a / 128 % 2) 0x1b) (low (a * 2)) (if_set_below (a / 128 % 2) 0x1b (lit< tt))

pub shifted_below : (i a : ℕ) → a < 256 → shifted i a < 256
unfolding shifted
shifted_below zero a h = h
shifted_below (suc i) a h = xtime_below (shifted i a)

product_below : (n a b : ℕ) → a < 256 → product n a b < 256
unfolding product
product_below zero a b h = lit< tt
product_below (suc i) a b h =
    xor_lt 8 (product i a b) (if_set (b / 2 ^ i % 2) (shifted i a)) (product_below i a b h)
    (if_set_below (b / 2 ^ i % 2) (shifted i a) (shifted_below i a h))

pub multiply_below : (a b : ℕ) → multiply a b < 256
unfolding multiply
multiply_below a b = product_below 8 (a % 256) (b % 256) (low a)

pub add_below : (a b : ℕ) → add a b < 256
add_below a b = xor_lt 8 (a % 256) (b % 256) (low a) (low b)

add_is : (a b : ℕ) → a < 256 → b < 256 → add a b ≡ bit_xor a b
add_is a b ha hb = ap₂ bit_xor (mod-eq_of_lt ha) (mod-eq_of_lt hb)

-- ---- multiplying

commutes : T (each 8 (λ i. each 8 (λ j. nat_eq (multiply (2 ^ i) (2 ^ j)) (multiply (2 ^ j) (2 ^ i)))))
unfolding if_set xtime shifted product multiply
commutes = tt

pub multiply_comm : (a b : ℕ) → a < 256 → b < 256 → multiply a b ≡ multiply b a
multiply_comm a b ha hb =
    agree (λ x. multiply x b) (λ x. multiply b x) (λ x y. left x y b) (right b) 8
    (λ i hi. agree (multiply (2 ^ i)) (λ y. multiply y (2 ^ i)) (right (2 ^ i)) (λ x y. left x y (2 ^ i)) 8
    (λ j hj. eqb→eq (multiply (2 ^ i) (2 ^ j)) (multiply (2 ^ j) (2 ^ i))
    (at 8 (λ j. nat_eq (multiply (2 ^ i) (2 ^ j)) (multiply (2 ^ j) (2 ^ i)))
    (at 8 (λ i. each 8 (λ j. nat_eq (multiply (2 ^ i) (2 ^ j)) (multiply (2 ^ j) (2 ^ i)))) commutes i hi) j hj))
    b hb)
    a ha

grouped : ℕ → ℕ → ℕ → Bool
grouped i j k = multiply (multiply (2 ^ i) (2 ^ j)) (2 ^ k) == multiply (2 ^ i) (multiply (2 ^ j) (2 ^ k))

associates : T (each 8 (λ i. each 8 (λ j. each 8 (grouped i j))))
unfolding if_set xtime shifted product multiply grouped
associates = tt

grouped_at : (i j k : ℕ) → i < 8 → j < 8 → k < 8
    → multiply (multiply (2 ^ i) (2 ^ j)) (2 ^ k) ≡ multiply (2 ^ i) (multiply (2 ^ j) (2 ^ k))
unfolding grouped
grouped_at i j k hi hj hk =
    eqb→eq (multiply (multiply (2 ^ i) (2 ^ j)) (2 ^ k)) (multiply (2 ^ i) (multiply (2 ^ j) (2 ^ k)))
    (at 8 (grouped i j) (at 8 (λ j. each 8 (grouped i j)) (at 8 (λ i. each 8 (λ j. each 8 (grouped i j))) associates i hi) j hj) k hk)

pub multiply_assoc : (a b c : ℕ) → a < 256 → b < 256 → c < 256 → multiply (multiply a b) c ≡ multiply a (multiply b c)
multiply_assoc a b c ha hb hc =
    agree (λ x. multiply (multiply x b) c) (λ x. multiply x (multiply b c))
    (λ x y. ap (λ (z : ℕ). multiply z c) (left x y b) ∙ left (multiply x b) (multiply y b) c)
    (λ x y. left x y (multiply b c)) 8
    (λ i hi. agree (λ x. multiply (multiply (2 ^ i) x) c) (λ x. multiply (2 ^ i) (multiply x c))
    (λ x y. ap (λ (z : ℕ). multiply z c) (right (2 ^ i) x y) ∙ left (multiply (2 ^ i) x) (multiply (2 ^ i) y) c)
    (λ x y. ap (multiply (2 ^ i)) (left x y c) ∙ right (2 ^ i) (multiply x c) (multiply y c)) 8
    (λ j hj. agree (multiply (multiply (2 ^ i) (2 ^ j))) (λ x. multiply (2 ^ i) (multiply (2 ^ j) x))
    (right (multiply (2 ^ i) (2 ^ j)))
    (λ x y. ap (multiply (2 ^ i)) (right (2 ^ j) x y) ∙ right (2 ^ i) (multiply (2 ^ j) x) (multiply (2 ^ j) y)) 8
    (λ k hk. grouped_at i j k hi hj hk) c hc)
    b hb)
    a ha

ones : T (each 8 (λ i. nat_eq (multiply (2 ^ i) 1) (2 ^ i)))
unfolding if_set xtime shifted product multiply
ones = tt

pub multiply_one : (a : ℕ) → a < 256 → multiply a 1 ≡ a
multiply_one a h =
    agree (λ x. multiply x 1) (λ x. x) (λ x y. left x y 1) (λ x y. refl) 8
    (λ i hi. eqb→eq (multiply (2 ^ i) 1) (2 ^ i) (at 8 (λ i. nat_eq (multiply (2 ^ i) 1) (2 ^ i)) ones i hi)) a h

pub distributes : (a b c : ℕ) → b < 256 → c < 256 → multiply a (add b c) ≡ add (multiply a b) (multiply a c)
distributes a b c hb hc =
    ap (multiply a) (add_is b c hb hc) ∙ right a b c
    ∙ sym (add_is (multiply a b) (multiply a c) (multiply_below a b) (multiply_below a c))

-- ---- the inverse

pub one_multiply : (a : ℕ) → a < 256 → multiply 1 a ≡ a
one_multiply a h = multiply_comm 1 a (lit< tt) h ∙ multiply_one a h

unique : (a p q : ℕ) → a < 256 → p < 256 → q < 256 → multiply a p ≡ 1 → multiply a q ≡ 1 → p ≡ q
unique a p q ha hp hq e f =
    sym (multiply_one p hp) ∙ ap (multiply p) (sym f) ∙ sym (multiply_assoc p a q hp ha hq)
    ∙ ap (λ (x : ℕ). multiply x q) (multiply_comm p a hp ha ∙ e) ∙ one_multiply q hq

pub inverse_none_zero : bytes.inv 0 ≡ None
inverse_none_zero =
    none multiply 256 0 (λ b h e. let z : multiply 0 b ≡ 0 = at_zero (λ x. multiply x b) (λ x y. left x y b) in omega arith)

pub inverse_reads : (a : ℕ) → bytes.inv a ≡ bytes.inv (a % 256)
inverse_reads a = same multiply 256 a (a % 256) (reads_left a)

pub inverse_of : (a : ℕ) → (a ≢ 0) → a < 256 → bytes.inv a ≡ Some (power254 a)
unfolding power254
inverse_of a n h =
    let e = power254_inverts a n h in
    let below = multiply_below (chain 6 a) (chain 6 a) in
    only multiply 256 a (power254 a) below e (λ q k f. unique a q (power254 a) h k below f e)

-- ---- adding

pub add_assoc : (a b c : ℕ) → a < 256 → b < 256 → c < 256 → add (add a b) c ≡ add a (add b c)
add_assoc a b c ha hb hc =
    add_is (add a b) c (add_below a b) hc ∙ ap (λ (x : ℕ). bit_xor x c) (add_is a b ha hb) ∙ xor_assoc a b c
    ∙ ap (bit_xor a) (sym (add_is b c hb hc)) ∙ sym (add_is a (add b c) ha (add_below b c))

unfoldable pub byte_lawful : Laws bytes
byte_lawful = record {
  two_elements = lit≤ tt;
  size_fits = lit< tt;
  add_below = add_below;
  neg_below = low;
  mul_below = multiply_below;
  inv_below = λ a b e. (found multiply 256 a b e).below;
  add_reads = λ a b. sym (ap₂ bit_xor (mod-mod a 256) (mod-mod b 256));
  neg_reads = λ a. sym (mod-mod a 256);
  mul_reads = reads;
  inv_reads = inverse_reads;
  add_assoc = add_assoc;
  add_comm = λ a b ha hb. xor_comm (a % 256) (b % 256);
  add_zero = λ a h. xor_zero_r (a % 256) ∙ mod-eq_of_lt h;
  add_neg = λ a h. ap (bit_xor (a % 256)) (mod-mod a 256) ∙ xor_self (a % 256);
  mul_assoc = multiply_assoc;
  mul_comm = multiply_comm;
  mul_one = multiply_one;
  distributes = λ a b c ha hb hc. distributes a b c hb hc;
  zero_has_none = inverse_none_zero;
  others_have_one = λ a h n. (power254 a, inverse_of a n h, power254_inverts a n h);
}
