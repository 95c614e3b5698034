-- Arithmetic modulo a prime number is that of a field.
--   laws_modulo     the laws, for any prime that a u32 holds
--   prime_by        a number that no number below n divides is prime, if it is below n times n
--   wide_prime      65,537 is prime: one test of the numbers up to 256, which the checker computes
--   wide_lawful     the wide field keeps the laws
-- Assumes nothing.
use Rattle.std.specs.Prelude.{◌≡◌, ℕ, zero, suc, ◌+◌, ◌-◌, ◌*◌, ◌/◌, ◌%◌, ◌^◌, ◌<◌, ◌≤◌, Bool, true, false, not, ◌&&◌, ◌||◌, leb, ◌==◌, ◌≢◌, nat_eq, nat_le, refl}
use Rattle.std.proofs.Common.{sym, ◌∙◌, ap, ap₂, mod-lt, mod-eq_of_lt, mul_assoc, mul_comm, add_comm, add_assoc, arith, lit<, lit≤, eq-eqb}
use Rattle.std.proofs.Math.Nat.{mod-mod, mod-add-mod, add-mod-mod, add-mod, div-add-mod, mul-mod_left, mod_self}
use Rattle.std.proofs.Math.Decide.{ℕ_discrete, dec_lt}
use Rattle.std.proofs.lemmas.Bool.{lt-leb}
use Rattle.std.proofs.lemmas.Nat.{mul-le}
use Rattle.fields.specs.Arithmetic.{Laws}
use Rattle.fields.specs.Modulo.{modulo, wide, Prime}
use Rattle.fields.specs.PartnersLemmas.{found, same}
use Rattle.fields.specs.Remainders.{mod_mul_mod, mul_mod_mod}
use Rattle.fields.specs.Inverses.{inverse_by, inverse_none_zero, euclid_inverse, inverts, euclid_below}

module _ (m : ℕ) (p : Prime m) where
  pub below : (a : ℕ) → a % m < m
  below a = mod-lt a (omega (arith, p.two))

  unfoldable pub laws_modulo : m < 2 ^ 32 → Laws (modulo m)
  laws_modulo u = record {
    two_elements = p.two;
    size_fits = u;
    add_below = λ a b. below _;
    neg_below = λ a. below _;
    mul_below = λ a b. below _;
    inv_below = λ a b e. (found (modulo m).mul m a b e).below;
    add_reads = λ a b. add-mod a b m;
    neg_reads = λ a. ap (λ (x : ℕ). (m - x) % m) (sym (mod-mod a m));
    mul_reads = λ a b. sym (mod_mul_mod a (b % m) m ∙ mul_mod_mod a b m);
    inv_reads = λ a. same (modulo m).mul m a (a % m) (λ b. sym (mod_mul_mod a b m));
    add_assoc = λ a b c h k l. mod-add-mod (a + b) m c ∙ ap (λ (x : ℕ). x % m) (add_assoc a b c) ∙ sym (add-mod-mod a (b + c) m);
    add_comm = λ a b h k. ap (λ (x : ℕ). x % m) (add_comm a b);
    add_zero = λ a h. ap (λ (x : ℕ). x % m) (omega arith) ∙ mod-eq_of_lt h;
    add_neg = λ a h. add-mod-mod a _ m ∙ ap (λ (x : ℕ). (a + (m - x)) % m) (mod-eq_of_lt h) ∙ ap (λ (x : ℕ). x % m) (omega arith) ∙ mod_self m;
    mul_assoc = λ a b c h k l. mod_mul_mod (a * b) c m ∙ ap (λ (x : ℕ). x % m) (mul_assoc a b c) ∙ sym (mul_mod_mod a (b * c) m);
    mul_comm = λ a b h k. ap (λ (x : ℕ). x % m) (mul_comm a b);
    mul_one = λ a h. ap (λ (x : ℕ). x % m) (omega arith) ∙ mod-eq_of_lt h;
    distributes = λ a b c h k l. mul_mod_mod a (b + c) m ∙ ap (λ (x : ℕ). x % m) (omega arith) ∙ add-mod (a * b) (a * c) m;
    zero_has_none = inverse_none_zero m;
    others_have_one = λ a h d.
        let e = inverts m p a (omega arith) h in
        (euclid_inverse m a, inverse_by m a (euclid_inverse m a) (euclid_below m p a) e, e);
  }

both : (a b : Bool) → (a && b) ≡ true → (a ≡ true) × (b ≡ true)
both true b e = (refl, e)
both false b e = let z : ◌≡◌ {A = ℕ} 0 1 = cc in absurd (omega arith)

-- no number from 2 on and below n divides m
abbrev none_divides : ℕ → ℕ → Bool
none_divides m zero = true
none_divides m (suc n) = none_divides m n && (nat_le n 1 || not (m % n == 0))

none_below : (m n : ℕ) → none_divides m n ≡ true → (d : ℕ) → 2 ≤ d → d < n → m % d ≢ 0
none_below m zero e d l u z = omega arith
none_below m (suc n) e d l u z =
    let (f, g) = both (none_divides m n) _ e in
    elim (ℕ_discrete d n) [
      | no h ↦ none_below m n f d l (omega arith) z
      | yes h ↦
          let i : leb n 1 ≡ false = lt-leb n 1 (omega arith) in
          let j : nat_eq (m % n) 0 ≡ true = eq-eqb (m % n) 0 (ap (λ (x : ℕ). m % x) (sym h) ∙ z) in
          let k : false ≡ true = ap₂ (λ x y. x || not y) (sym i) (sym j) ∙ g in
          let o : ◌≡◌ {A = ℕ} 0 1 = cc in
          omega arith
    ]

prime_by : (m n : ℕ) → 2 ≤ m → m < n * n → none_divides m n ≡ true → Prime m
prime_by m n l u e = record {
  two = l;
  no_divisor = λ d h k z.
      let f : d * (m / d) ≡ m = omega (arith, div-add-mod m d) in
      elim (dec_lt d n) [
        | yes o ↦ none_below m n e d h o z
        | no o ↦ elim (dec_lt (m / d) n) [
          | no r ↦ omega (arith, mul-le n n d (m / d) (omega arith) (omega arith))
          | yes r ↦
              let q : 2 ≤ m / d = elim (dec_lt 1 (m / d)) [ yes v ↦ v | no v ↦ absurd (omega (arith, mul-le d (m / d) d 1 (omega arith) (omega arith))) ] in
              none_below m n e (m / d) q r (ap (λ (x : ℕ). x % (m / d)) (sym f) ∙ mul-mod_left d (m / d))
        ]
      ];
}

pub wide_prime : Prime 65537
wide_prime = prime_by 65537 257 (lit≤ tt) (lit< tt) refl

unfoldable pub wide_lawful : Laws wide
wide_lawful = laws_modulo 65537 wide_prime (lit< tt)
