use Rattle.std.proofs.Common.{refl, rules}
use Rattle.sharing.specs.declared.refusal.Refusal.TheVariants as refusal
use Rattle.trays.specs.Layout.{at_cards, more_bytes}
use Rattle.trays.proofs.Requests.{wrong_byte, ended_here}
use Rattle.trays.proofs.reader.TrayReader.read_end.Goals as goal

pub returns-then-self : goal.returns-then-self
returns-then-self c =
    λ w. wrong_byte (at_cards w 0) _ refusal.TrailingByte _ _ (search rules) (c.if-self.true, refl) more_bytes

pub returns : goal.returns
returns c = λ w. ended_here w c.args.self.now _ c.if-self.false refl refl
