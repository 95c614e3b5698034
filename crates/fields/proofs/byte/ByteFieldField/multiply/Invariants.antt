use Rattle.std.proofs.Common.{◌≡◌, ◌%◌, ◌<◌}
use Rattle.fields.specs.Bytes.{shifted, product}
use Rattle.fields.proofs.byte.ByteFieldField.multiply.Given as goal

abbrev pub invariant-loop-i : goal.invariant-loop-i
invariant-loop-i l = (l.shifted ≡ shifted l.i (l.a % 256)) × (l.product ≡ product l.i (l.a % 256) l.bits) × (l.shifted < 256)
