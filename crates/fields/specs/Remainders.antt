-- Remainders of sums and products, and a step of Euclid's algorithm.
--   mod_mul_mod, mul_mod_mod     a factor may be replaced by its remainder
--   euclid_step                  the next factor of the algorithm leaves the next remainder
--   Commons                      every common divisor of the two remainders divides the two numbers that they began with
--   commons_start, commons_step  it holds at the start and goes on from step to step
-- Assumes nothing.
use Rattle.std.specs.Prelude.{◌≡◌, ℕ, ◌+◌, ◌-◌, ◌*◌, ◌/◌, ◌%◌, ◌<◌}
use Rattle.std.proofs.Common.{sym, ap, ◌∙◌, arith, mul-one, mul-add, mul_comm, mul_left_comm}
use Rattle.std.specs.Int.{◌∣◌}
use Rattle.std.proofs.Math.Nat.{dvd-mod_iff, mul-add-mod_self_left, add-mul-mod_self_left, div-add-mod, mod-add-mod, add-mod-mod}

pub mod_mul_mod : (a b m : ℕ) → (a % m * b) % m ≡ (a * b) % m
mod_mul_mod a b m =
    let e : a * b ≡ m * (a / m * b) + a % m * b = ap (λ (x : ℕ). x * b) (sym (div-add-mod a m)) ∙ omega arith in
    sym (ap (λ (x : ℕ). x % m) e ∙ mul-add-mod_self_left m (a / m * b) (a % m * b))

pub mul_mod_mod : (a b m : ℕ) → (a * (b % m)) % m ≡ (a * b) % m
mul_mod_mod a b m = ap (λ (x : ℕ). x % m) (mul_comm a (b % m)) ∙ mod_mul_mod b a m ∙ ap (λ (x : ℕ). x % m) (mul_comm b a)

-- z and what completes it to a multiple of m
completes : (m z : ℕ) → 0 < m → z + (m - z % m) ≡ m * (z / m + 1)
completes m z h =
    let d = div-add-mod z m in
    let e : m * (z / m + 1) ≡ m * (z / m) + m = mul-add m (z / m) 1 ∙ ap (λ (n : ℕ). m * (z / m) + n) (mul-one m) in
    omega arith

cancel : (m x y z : ℕ) → 0 < m → (x + z) % m ≡ (y + z) % m → x % m ≡ y % m
cancel m x y z h e =
    let back : (w : ℕ) → ((w + z) % m + (m - z % m)) % m ≡ w % m = λ w.
    mod-add-mod (w + z) m (m - z % m)
    ∙ ap (λ (n : ℕ). n % m) (let c = completes m z h in let s : w + z + (m - z % m) ≡ w + m * (z / m + 1) = omega arith in s)
    ∙ add-mul-mod_self_left w m (z / m + 1) in
    sym (back x) ∙ ap (λ (n : ℕ). (n + (m - z % m)) % m) e ∙ back y

pub euclid_step : (m a factor next high low quotient rest : ℕ) → 0 < m → (a * factor) % m ≡ high % m
    → (a * next) % m ≡ low % m → high ≡ rest + quotient * low
    → (a * ((factor + (m - (quotient * next) % m)) % m)) % m ≡ rest % m
euclid_step m a factor next high low quotient rest h ef en eh =
    let z = quotient * next in
    let s = factor + (m - z % m) in
    let c = completes m z h in
    let sum : s + z ≡ factor + m * (z / m + 1) = omega arith in
    let left : (a * s + quotient * low) % m ≡ (a * (s + z)) % m =
    sym (add-mod-mod (a * s) (quotient * low) m)
    ∙ ap (λ (n : ℕ). (a * s + n) % m) (sym (mul_mod_mod quotient low m) ∙ ap (λ (n : ℕ). (quotient * n) % m) (sym en) ∙ mul_mod_mod quotient (a * next) m)
    ∙ add-mod-mod (a * s) (quotient * (a * next)) m
    ∙ ap (λ (n : ℕ). (a * s + n) % m) (mul_left_comm quotient a next)
    ∙ ap (λ (n : ℕ). n % m) (sym (mul-add a s z)) in
    let right : (a * (s + z)) % m ≡ (rest + quotient * low) % m =
    ap (λ (n : ℕ). (a * n) % m) sum
    ∙ ap (λ (n : ℕ). n % m) (mul-add a factor (m * (z / m + 1)) ∙ ap (λ (n : ℕ). a * factor + n) (mul_left_comm a m (z / m + 1)))
    ∙ add-mul-mod_self_left (a * factor) m (a * (z / m + 1))
    ∙ ef ∙ ap (λ (n : ℕ). n % m) eh in
    mul_mod_mod a s m ∙ cancel m (a * s) rest (quotient * low) h (left ∙ right)

abbrev pub Commons : ℕ → ℕ → ℕ → ℕ → Type 0
Commons high low m a = (d : ℕ) → d ∣ high → d ∣ low → (d ∣ m) × (d ∣ a)

pub commons_start : (m a : ℕ) → Commons m (a % m) m a
commons_start m a d h l = (h, (dvd-mod_iff d {m = a} {n = m} h).0 l)

pub commons_step : (high low m a : ℕ) → Commons high low m a → Commons low (high % low) m a
commons_step high low m a c d h l = c d ((dvd-mod_iff d {m = high} {n = low} h).0 l) h
