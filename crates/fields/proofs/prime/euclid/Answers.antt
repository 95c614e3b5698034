use Rattle.std.proofs.Common.{◌≡◌, ℕ, ◌/◌, ◌%◌, sym, ap, ◌∙◌, subst, mod-lt, mod-eq_of_lt, mul-zero, mul-one, arith}
use Prim.Native.Nat.{◌∣◌}
use native.Mathlib.Nat.{mod_self, mod-mod, zero-mod, mod-add-div', dvd_refl, dvd-zero}
use Rattle.fields.specs.Inverses.{inverse_by, no_inverse_by}
use Rattle.fields.specs.Remainders.{euclid_step, commons_start, commons_step}
use Rattle.fields.proofs.prime.euclid.Goals as goal

pub loop-low-init : goal.loop-low-init
loop-low-init c =
    let m = c.args.m in
    let a = c.args.a in (
      omega arith,
      omega arith,
      mod-lt a {m = m} (omega arith),
      omega arith,
      omega arith,
      ap (λ (n : ℕ). n % m) (mul-zero a) ∙ zero-mod m ∙ sym (mod_self m),
      ap (λ (n : ℕ). n % m) (mul-one a) ∙ sym (mod-mod a m),
      commons_start m a,
    )

pub loop-low-preserved : goal.loop-low-preserved
loop-low-preserved c =
    let m = c.args.m in
    let a = c.args.a in
    let i = c.loop-low.invariant in
    let high = c.loop-low.high in
    let low = c.loop-low.low in (
      omega arith,
      omega arith,
      mod-lt high {m = low} (omega arith),
      i.4,
      mod-lt _ {m = m} (omega arith),
      i.6,
      euclid_step m a c.loop-low.factor c.loop-low.next high low (high / low) (high % low) (omega arith) i.5 i.6 (sym (mod-add-div' high low)),
      commons_step high low m a i.7,
    )

pub returns-then-high-eq1 : goal.returns-then-high-eq1
returns-then-high-eq1 c =
    let i = c.loop-low.invariant in
    let m = c.args.m in
    let one : 1 % m ≡ 1 = mod-eq_of_lt (omega arith) in
    sym (inverse_by m c.args.a c.loop-low.factor i.3 (i.5 ∙ ap (λ (n : ℕ). n % m) c.if-high-eq1.true ∙ one))

pub returns-else-high-eq1 : goal.returns-else-high-eq1
returns-else-high-eq1 c =
    let i = c.loop-low.invariant in
    let high = c.loop-low.high in
    let z : c.loop-low.low ≡ 0 = omega arith in
    let both = i.7 high (dvd_refl high) (subst (λ (n : ℕ). high ∣ n) (sym z) (dvd-zero high)) in
    sym (no_inverse_by c.args.m c.args.a high (omega arith) both.0 both.1)
