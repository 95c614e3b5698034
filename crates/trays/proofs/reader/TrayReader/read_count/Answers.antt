use Rattle.std.proofs.Common.{refl, rules}
use Rattle.trays.specs.Layout.{at_count, at_cards, card_count, a_count}
use Rattle.trays.proofs.OneWay.{no_count}
use Rattle.trays.proofs.Requests.{no_byte, byte_given}
use Rattle.trays.proofs.reader.TrayReader.read_count.Goals as goal

pub returns-in_err-left : goal.returns-in_err-left
returns-in_err-left c = no_byte _ _ _ (search rules) c.in_err-left.ensures.0 no_count

pub returns : goal.returns
returns c =
    byte_given (at_count c.args.words) (at_cards c.args.words c.in_ok-left.left) c.args.self.now _ c.in_ok-left.left (card_count c.in_ok-left.left) _ c.in_ok-left.ensures refl refl refl a_count refl (λ ps e x. x)
