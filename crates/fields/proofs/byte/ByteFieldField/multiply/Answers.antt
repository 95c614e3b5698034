use Rattle.std.proofs.Common.{◌≡◌, ℕ, ◌+◌, ◌/◌, ◌%◌, ◌^◌, sym, refl, ap, ◌∙◌, ap₂, add-one, arith}
use lib.Bits.{bit_xor, xor_zero_r}
use Rattle.fields.specs.Bytes.{if_set, xtime, shifted, product, multiply}
use Rattle.fields.specs.ByteLaws.{xtime_below}
use Rattle.fields.proofs.byte.ByteFieldField.multiply.Goals as goal
use Rattle.fields.proofs.byte.ByteFieldField.multiply.Goals.{then-bits-i-eq1, else-bits-i-eq1}

shifted_next : (i a : ℕ) → shifted (i + 1) a ≡ xtime (shifted i a)
unfolding shifted
shifted_next i a = rw add-one

product_next : (i a b bit : ℕ) → b / 2 ^ i % 2 ≡ bit → product (i + 1) a b ≡ bit_xor (product i a b) (if_set bit (shifted i a))
unfolding product
product_next i a b bit e = rw (add-one, e)

not-one : (n : ℕ) → (n % 2 ≡ 1 → ⊥) → n % 2 ≡ 0
not-one n h = omega arith

pub loop-i-init : goal.loop-i-init
unfolding shifted product
loop-i-init c = (refl, refl, omega arith)

pub loop-i-preserved : goal.loop-i-preserved
unfolding if_set
loop-i-preserved c =
    let i = c.loop-i.i in
    let a = c.args.a % 256 in
    let b = c.args.b % 256 in
    let inv = c.loop-i.invariant in
    let again = c.times_x-shifted.ensures in (
      again ∙ ap xtime inv.0 ∙ sym (shifted_next i a),
      elim c.if-bits-i-eq1.branch [
        | then-bits-i-eq1 w ↦ w.product-is ∙ ap₂ bit_xor inv.1 inv.0 ∙ sym (product_next i a b 1 w.if-bits-i-eq1.true)
        | else-bits-i-eq1 w ↦ w.product-is ∙ inv.1 ∙ sym (product_next i a b 0 (not-one (b / 2 ^ i) w.if-bits-i-eq1.false) ∙ xor_zero_r (product i a b))
      ],
      rw again (xtime_below c.loop-i.shifted),
    )

pub returns : goal.returns
unfolding multiply
returns c =
    let e : c.loop-i.i ≡ 8 = omega arith in
    c.loop-i.invariant.1 ∙ ap (λ (n : ℕ). product n (c.args.a % 256) (c.args.b % 256)) e
