use Rattle.std.proofs.Common.{◌≡◌}
use Rattle.fields.specs.Powers.{chain}
use Rattle.fields.proofs.byte.ByteFieldField.inverse.Given as goal

abbrev pub invariant-loop : goal.invariant-loop
invariant-loop l = l.power ≡ chain l.counter l.byte
