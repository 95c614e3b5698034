use Rattle.std.proofs.Common.{◌≡◌, ◌-◌, ◌++◌, map, take, replicate}
use Rattle.trays.specs.Cards.{little_endian}
use Rattle.trays.proofs.card.numbers_in.Given as goal

abbrev pub invariant-loop-i : goal.invariant-loop-i
invariant-loop-i l = l.values ≡ map little_endian (take l.i l.chunks) ++ replicate (16 - l.i) 0
