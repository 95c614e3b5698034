use Rattle.std.proofs.Common.{◌≡◌, leb, drop}
use Rattle.std.specs.List.{list_any}
use Rattle.sharing.proofs.elements.any_outside.Given as goal

-- what is left decides whether some number is no element
abbrev pub invariant-loop-number : goal.invariant-loop-number
invariant-loop-number g l =
    list_any (λ a. leb (g.F.Field.arithmetic l.field).size a) l.numbers
    ≡ list_any (λ a. leb (g.F.Field.arithmetic l.field).size a) (drop l.number-index l.numbers)
