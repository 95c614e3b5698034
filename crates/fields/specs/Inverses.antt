-- Inverses modulo a number.
--   inverse_by         a number below m whose product with a leaves one is the inverse of a
--   no_inverse_by      a number that has a divisor past one in common with m has none
--   inverse_none_zero  zero has none
--   euclid_inverse     the inverse of a number a, 0 < a < m, by the remainders of Euclid's algorithm, which the checker computes
--                      at once where the search of `modulo` would try every number
--   inverts            it is an inverse if m is prime
--   euclid_below       it is below m
-- Assumes nothing.
use Rattle.std.specs.Prelude.{◌≡◌, ℕ, zero, suc, ◌+◌, ◌-◌, ◌*◌, ◌/◌, ◌%◌, ◌<◌, ◌≤◌, Bool, true, false, cond, Some, None, nat_le, refl}
use Rattle.std.proofs.Common.{sym, ◌∙◌, ap, subst, mod-lt, mod-eq_of_lt, mul_assoc, mul_comm, mul-one, zero-mul, arith, leb-true, leb-false}
use Rattle.std.specs.Int.{◌∣◌}
use Rattle.std.proofs.Math.Nat.{div-add-mod, mul-add-mod_self_left, dvd-mod_iff, dvd-mul_right_of_dvd, le_of_dvd, zero-mod}
use Rattle.std.proofs.Math.Decide.{ℕ_discrete}
use Rattle.fields.specs.Modulo.{modulo, Prime}
use Rattle.fields.specs.PartnersLemmas.{only, none}
use Rattle.fields.specs.Remainders.{mul_mod_mod}

one_inverse : (m a b c : ℕ) → b < m → c < m → (a * b) % m ≡ 1 → (a * c) % m ≡ 1 → b ≡ c
one_inverse m a b c hb hc eb ec =
    let left : (b * (a * c)) % m ≡ b = sym (mul_mod_mod b (a * c) m) ∙ ap (λ (n : ℕ). (b * n) % m) ec ∙ ap (λ (n : ℕ). n % m) (mul-one b) ∙ mod-eq_of_lt hb in
    let right : (c * (a * b)) % m ≡ c = sym (mul_mod_mod c (a * b) m) ∙ ap (λ (n : ℕ). (c * n) % m) eb ∙ ap (λ (n : ℕ). n % m) (mul-one c) ∙ mod-eq_of_lt hc in
    let same : b * (a * c) ≡ c * (a * b) = mul_comm b (a * c) ∙ ap (λ (n : ℕ). n * b) (mul_comm a c) ∙ mul_assoc c a b in
    sym left ∙ ap (λ (n : ℕ). n % m) same ∙ right

pub inverse_by : (m a b : ℕ) → b < m → (a * b) % m ≡ 1 → (modulo m).inv a ≡ Some b
inverse_by m a b h e = only (modulo m).mul m a b h e (λ c k f. one_inverse m a c b k h f e)

pub no_inverse_by : (m a d : ℕ) → 1 < d → d ∣ m → d ∣ a → (modulo m).inv a ≡ None
no_inverse_by m a d lt dm da =
    none (modulo m).mul m a (λ b h e.
    let divides : d ∣ (a * b) % m = (dvd-mod_iff d {m = a * b} {n = m} dm).1 (dvd-mul_right_of_dvd d da b) in
    let small : d ≤ 1 = le_of_dvd (omega arith) (subst (λ (n : ℕ). d ∣ n) e divides) in
    omega arith)

pub inverse_none_zero : (m : ℕ) → (modulo m).inv 0 ≡ None
inverse_none_zero m =
    none (modulo m).mul m 0 (λ b h e. let z : (0 * b) % m ≡ 0 = ap (λ (n : ℕ). n % m) (zero-mul b) ∙ zero-mod m in omega arith)

-- m = (m / a) a + m % a, so the inverse of a is that of m % a, times m / a, negated; in at most n steps
abbrev inverse_in : ℕ → ℕ → ℕ → ℕ
inverse_in zero m a = 1
inverse_in (suc n) m a = cond (nat_le a 1) 1 ((m - m / a) * inverse_in n m (m % a) % m)

abbrev pub euclid_inverse : ℕ → ℕ → ℕ
euclid_inverse m a = inverse_in a m a

expand : (m a b q r z s : ℕ) → a ≡ suc b → a * q + r ≡ m → m ≡ q + z → a * (z * s) ≡ m * (b * s) + r * s
expand m a b q r z s i j k =
    let e : b * m + m ≡ (b * q + q) + (b * z + z) = ap (λ (x : ℕ). b * x + x) k ∙ omega arith in
    let f : a * q ≡ b * q + q = ap (λ (x : ℕ). x * q) i ∙ omega arith in
    let g : a * z ≡ b * z + z = ap (λ (x : ℕ). x * z) i ∙ omega arith in
    let h : a * z ≡ m * b + r = omega arith in
    sym (mul_assoc a z s) ∙ ap (λ (x : ℕ). x * s) h ∙ omega arith

inverse_step : (m a s : ℕ) → 2 ≤ a → a < m → (m % a * s) % m ≡ 1 → (a * ((m - m / a) * s % m)) % m ≡ 1
inverse_step m a s l u h =
    mul_mod_mod a ((m - m / a) * s) m
    ∙ ap (λ (x : ℕ). x % m) (expand m a (a - 1) (m / a) (m % a) (m - m / a) s (omega arith) (div-add-mod m a) (omega arith))
    ∙ mul-add-mod_self_left m ((a - 1) * s) (m % a * s) ∙ h

module _ (m : ℕ) (p : Prime m) where
  inverts_in : (n a : ℕ) → a ≤ n → 0 < a → a < m → (a * inverse_in n m a) % m ≡ 1
  inverts_in zero a l u v = absurd (omega arith)
  inverts_in (suc n) a l u v = go (nat_le a 1) refl (inverts_in n (m % a))
    where
      go : (b : Bool) → nat_le a 1 ≡ b → (m % a ≤ n → 0 < m % a → m % a < m → (m % a * inverse_in n m (m % a)) % m ≡ 1) → (a * cond b 1 ((m - m / a) * inverse_in n m (m % a) % m)) % m ≡ 1
      go true e h = let o = leb-true a 1 e in ap (λ (x : ℕ). x % m) (omega arith) ∙ mod-eq_of_lt (omega (arith, p.two))
      go false e h =
          let o = leb-false a 1 e in
          let r : m % a < a = mod-lt m (omega arith) in
          let z : 0 < m % a = elim (ℕ_discrete (m % a) 0) [ yes i ↦ absurd (p.no_divisor a (omega arith) v i) | no d ↦ omega arith ] in
          inverse_step m a _ (omega arith) v (h (omega arith) z (omega arith))

  pub inverts : (a : ℕ) → 0 < a → a < m → (a * euclid_inverse m a) % m ≡ 1
  inverts a = inverts_in a a (omega arith)

  below_in : (n a : ℕ) → inverse_in n m a < m
  below_in zero a = omega (arith, p.two)
  below_in (suc n) a = go (nat_le a 1)
    where
      go : (b : Bool) → cond b 1 ((m - m / a) * inverse_in n m (m % a) % m) < m
      go true = omega (arith, p.two)
      go false = mod-lt _ (omega (arith, p.two))

  pub euclid_below : (a : ℕ) → euclid_inverse m a < m
  euclid_below a = below_in a a
