use Rattle.std.proofs.Common.{◌≡◌, ℕ, ◌+◌, ◌%◌, Some, sym, refl, ap, ◌∙◌, mod-lt, add-one, arith, lit<}
use Rattle.fields.specs.Bytes.{multiply, bytes}
use Rattle.fields.specs.ByteLaws.{inverse_of, inverse_reads, inverse_none_zero}
use Rattle.fields.specs.Powers.{chain, power254}
use Rattle.fields.proofs.byte.ByteFieldField.inverse.Goals as goal

chain_next : (n a p q : ℕ) → p ≡ chain n a → q ≡ multiply p p → multiply q a ≡ chain (n + 1) a
unfolding chain
chain_next n a p q e f = rw (f, e, add-one)

powered : (a p : ℕ) → p ≡ chain 6 a → multiply p p ≡ power254 a
unfolding power254
powered a p e = rw e

pub returns-then-byte-eq0 : goal.returns-then-byte-eq0
returns-then-byte-eq0 c =
    sym (inverse_reads c.args.a ∙ ap bytes.inv c.if-byte-eq0.true ∙ inverse_none_zero)

pub loop-init : goal.loop-init
unfolding chain
loop-init c = refl

pub loop-preserved : goal.loop-preserved
loop-preserved c =
    c.multiply-power.ensures ∙ chain_next c.loop.counter (c.args.a % 256) c.loop.power c.multiply.result c.loop.invariant c.multiply.ensures

pub returns : goal.returns
returns c =
    let e : c.loop.counter ≡ 6 = omega arith in
    let byte = c.args.a % 256 in
    ap Some (c.multiply-inverse.ensures ∙ powered byte c.loop.power (c.loop.invariant ∙ ap (λ (n : ℕ). chain n byte) e))
    ∙ sym (inverse_reads c.args.a ∙ inverse_of byte c.if-byte-eq0.false (mod-lt c.args.a (lit< tt)))
