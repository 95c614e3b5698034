use Rattle.std.proofs.Common.{◌+◌, drop, refl, rules, arith}
use Rattle.std.proofs.lemmas.List.{length-drop}
use Rattle.sharing.specs.declared.refusal.Refusal.TheVariants as refusal
use Rattle.trays.specs.Layout.{at_thresholds, at_words, thresholds, some_thresholds}
use Rattle.trays.proofs.OneWay.{no_thresholds, few_thresholds}
use Rattle.trays.proofs.Requests.{begins, no_byte, wrong_byte, given, cut}
use Rattle.trays.proofs.reader.TrayReader.read_thresholds.Goals as goal

pub returns-in_err-count : goal.returns-in_err-count
returns-in_err-count c =
    no_byte _ _ _ (search rules) c.in_err-count.ensures.0 no_thresholds

pub returns-in_err-bytes : goal.returns-in_err-bytes
returns-in_err-bytes c =
    let bs = c.args.self.now.bytes.now in
    let p = c.args.self.now.position in
    let few = few_thresholds c.in_ok-count.field-0 (drop (p + 1) bs) (omega (arith, length-drop (p + 1) bs, c.in_ok-count.ensures.0, c.in_err-bytes.ensures.0)) in
    wrong_byte _ _ refusal.TrayEndsEarly _ c.in_ok-count.field-0 (search rules) c.in_ok-count.ensures few

pub returns : goal.returns
returns c =
    let bs = c.args.self.now.bytes.now in
    let p = c.args.self.now.position in
    let count = begins bs p c.in_ok-count.field-0 c.in_ok-count.ensures in
    let there = cut bs (p + 1) c.in_ok-count.field-0 c.in_ok-bytes.bytes.now c.in_ok-bytes.ensures in
    given at_thresholds at_words c.args.self.now _ (thresholds c.in_ok-bytes.bytes.now) _ refl refl some_thresholds (cc) (omega (arith, there.0)) (λ ps e x. x)
