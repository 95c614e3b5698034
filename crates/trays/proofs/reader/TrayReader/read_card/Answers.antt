use Rattle.std.proofs.Common.{◌-◌, refl, rules, arith}
use Rattle.sharing.specs.declared.refusal.Refusal.TheVariants as refusal
use Rattle.trays.specs.Layout.{at_cards, card}
use Rattle.trays.proofs.Requests.{refused, given, cut, card_follows, no_card}
use Rattle.trays.proofs.reader.TrayReader.read_card.Goals as goal

pub returns-in_err-bytes : goal.returns-in_err-bytes
returns-in_err-bytes c =
    refused _ _ refusal.TrayEndsEarly _ (search rules) (no_card c.args.words c.args.left c.args.self.now.bytes.now c.args.self.now.position c.requires (omega (arith, c.in_err-bytes.ensures.0)))

pub returns : goal.returns
returns c =
    let there = cut c.args.self.now.bytes.now c.args.self.now.position c.card_size-size.result c.in_ok-bytes.bytes.now c.in_ok-bytes.ensures in
    given (at_cards c.args.words c.args.left) (at_cards c.args.words (c.args.left - 1)) c.args.self.now _ (card c.in_ok-bytes.bytes.now) _ refl refl (card_follows c.args.words c.args.left c.in_ok-bytes.bytes.now c.requires (omega (arith, there.0))) there.1 (omega (arith, there.0)) (λ ps e x. x)
