-- The product of two bytes is the remainder of their product as polynomials by 0x11b: `products`.
-- Assumes nothing.
use Rattle.std.proofs.Common.{◌≡◌, ℕ, zero, suc, ◌*◌, ◌/◌, ◌%◌, ◌^◌, ◌<◌, T, eqb, sym, refl, ap, ◌∙◌, ap₂, add-zero, mod-eq_of_lt, mul_assoc, mul_comm, pow-suc, mul-one, eqb→eq, pow_pos}
use lib.Bits.{bit_xor, xor_assoc, xor_block}
use Rattle.fields.specs.Bytes.{if_set, xtime, shifted, product, multiply}
use Rattle.fields.specs.Polynomials.{times, Remainder}
use Rattle.fields.specs.Each.{each, at}
use Rattle.fields.specs.Linear.{swap, if_set_value}
use Rattle.fields.specs.ByteLaws.{shifted_below, multiply_below}

-- a shift goes through exclusive or
moved : (k a b : ℕ) → bit_xor a b * 2 ^ k ≡ bit_xor (a * 2 ^ k) (b * 2 ^ k)
moved k a b =
    sym (add-zero (bit_xor a b * 2 ^ k)) ∙ sym (xor_block k a b 0 0 (pow_pos k) (pow_pos k))
    ∙ ap₂ bit_xor (add-zero (a * 2 ^ k)) (add-zero (b * 2 ^ k))

times_left : (n a b c : ℕ) → times n (bit_xor a b) c ≡ bit_xor (times n a c) (times n b c)
unfolding times
times_left zero a b c = refl
times_left (suc i) a b c =
    ap₂ bit_xor (times_left i a b c)
    (ap (if_set (c / 2 ^ i % 2)) (moved i a b) ∙ if_set_value (c / 2 ^ i % 2) (a * 2 ^ i) (b * 2 ^ i))
    ∙ swap (times i a c) (times i b c) (if_set (c / 2 ^ i % 2) (a * 2 ^ i)) (if_set (c / 2 ^ i % 2) (b * 2 ^ i))

if_set_double : (p a : ℕ) → if_set p a * 2 ≡ if_set p (a * 2)
unfolding if_set
if_set_double zero a = refl
if_set_double (suc p) a = refl

shift_swap : (a i : ℕ) → a * 2 ^ i * 2 ≡ a * 2 * 2 ^ i
shift_swap a i = mul_assoc a (2 ^ i) 2 ∙ ap (λ (x : ℕ). a * x) (mul_comm (2 ^ i) 2) ∙ sym (mul_assoc a 2 (2 ^ i))

times_double : (n a b : ℕ) → times n a b * 2 ≡ times n (a * 2) b
unfolding times
times_double zero a b = refl
times_double (suc i) a b =
    moved 1 (times i a b) (if_set (b / 2 ^ i % 2) (a * 2 ^ i))
    ∙ ap₂ bit_xor (times_double i a b)
    (if_set_double (b / 2 ^ i % 2) (a * 2 ^ i) ∙ ap (if_set (b / 2 ^ i % 2)) (shift_swap a i))

-- the modulus, q times
modulus : ℕ → ℕ
modulus q = times 9 q 0x11b

-- twice a byte is its `xtime`, and the modulus if the top bit is set
doubles : T (each 256 (λ s. eqb (s * 2) (bit_xor (modulus (s / 128)) (xtime s))))
unfolding modulus times if_set xtime
doubles = tt

double_at : (s : ℕ) → s < 256 → s * 2 ≡ bit_xor (modulus (s / 128)) (xtime s)
double_at s h = eqb→eq (s * 2) (bit_xor (modulus (s / 128)) (xtime s)) (at 256 (λ s. eqb (s * 2) (bit_xor (modulus (s / 128)) (xtime s))) doubles s h)

-- how often the modulus goes into a times x^i
over : ℕ → ℕ → ℕ
over zero a = 0
over (suc i) a = bit_xor (over i a * 2) (shifted i a / 128)

shift_whole : (i a : ℕ) → a < 256 → a * 2 ^ i ≡ bit_xor (modulus (over i a)) (shifted i a)
unfolding over shifted modulus times if_set
shift_whole zero a h = mul-one a
shift_whole (suc i) a h =
    ap (λ (x : ℕ). a * x) (pow-suc 2 i) ∙ sym (mul_assoc a (2 ^ i) 2)
    ∙ ap (λ (x : ℕ). x * 2) (shift_whole i a h) ∙ moved 1 (modulus (over i a)) (shifted i a)
    ∙ ap₂ bit_xor (times_double 9 (over i a) 0x11b) (double_at (shifted i a) (shifted_below i a h))
    ∙ sym (xor_assoc (modulus (over i a * 2)) (modulus (shifted i a / 128)) (xtime (shifted i a)))
    ∙ ap (λ (x : ℕ). bit_xor x (xtime (shifted i a))) (sym (times_left 9 (over i a * 2) (shifted i a / 128) 0x11b))

if_set_modulus : (p q : ℕ) → if_set p (modulus q) ≡ modulus (if_set p q)
unfolding if_set modulus times
if_set_modulus zero q = refl
if_set_modulus (suc p) q = refl

-- how often the modulus goes into a times b
all_over : ℕ → ℕ → ℕ → ℕ
all_over zero a b = 0
all_over (suc i) a b = bit_xor (all_over i a b) (if_set (b / 2 ^ i % 2) (over i a))

whole_at : (n a b : ℕ) → a < 256 → times n a b ≡ bit_xor (modulus (all_over n a b)) (product n a b)
unfolding all_over product modulus times if_set
whole_at zero a b h = refl
whole_at (suc i) a b h =
    let p = b / 2 ^ i % 2 in
    ap₂ bit_xor (whole_at i a b h)
    (ap (if_set p) (shift_whole i a h) ∙ if_set_value p (modulus (over i a)) (shifted i a)
    ∙ ap (λ (x : ℕ). bit_xor x (if_set p (shifted i a))) (if_set_modulus p (over i a)))
    ∙ swap (modulus (all_over i a b)) (product i a b) (modulus (if_set p (over i a))) (if_set p (shifted i a))
    ∙ ap (λ (x : ℕ). bit_xor x (bit_xor (product i a b) (if_set p (shifted i a)))) (sym (times_left 9 (all_over i a b) (if_set p (over i a)) 0x11b))

pub products : (a b : ℕ) → a < 256 → b < 256 → Remainder (times 8 a b) (multiply a b)
unfolding multiply modulus
products a b ha hb =
    record {
      quotient = all_over 8 a b;
      small = multiply_below a b;
      whole = whole_at 8 a b ha ∙ ap (bit_xor (modulus (all_over 8 a b))) (ap₂ (product 8) (sym (mod-eq_of_lt ha)) (sym (mod-eq_of_lt hb)));
    }
