use Rattle.std.proofs.Common.{ℕ, ◌<◌, sym, subst, arith, rules}
use Rattle.fields.specs.Polynomials.{times, Remainder}
use Rattle.fields.specs.ByteLaws.{multiply_below}
use Rattle.fields.proofs.Products.{products}
use Rattle.fields.proofs.byte.byte_product.Goals as goal

pub overflow_cast-result : goal.overflow_cast-result
overflow_cast-result c =
    let h : c.multiply.result < 256 = subst (λ (r : ℕ). r < 256) (sym c.multiply.ensures) (multiply_below _ _) in
    search rules

pub returns : goal.returns
returns c =
    subst (λ (r : ℕ). Remainder (times 8 c.args.a c.args.b) r) (sym c.multiply.ensures)
    (products c.args.a c.args.b (omega arith) (omega arith))
