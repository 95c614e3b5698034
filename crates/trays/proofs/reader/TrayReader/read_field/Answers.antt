use Rattle.std.proofs.Common.{◌≡◌, Err, refl, rules}
use Rattle.sharing.specs.declared.refusal.Refusal.TheVariants as refusal
use Rattle.trays.specs.Answers.{fault_at}
use Rattle.trays.specs.Fields.{field_number}
use Rattle.trays.specs.Layout.{at_field, at_thresholds, field, unknown_field}
use Rattle.trays.proofs.OneWay.{no_field}
use Rattle.trays.proofs.Requests.{no_byte, wrong_byte, byte_given, field_follows}
use Rattle.trays.proofs.reader.TrayReader.read_field.Goals as goal

pub returns-in_err-code : goal.returns-in_err-code
returns-in_err-code c =
    no_byte _ _ _ (search rules) c.in_err-code.ensures.0 no_field

pub returns-in_err-field : goal.returns-in_err-field
returns-in_err-field c =
    let why : c.accepted.result ≡ Err (fault_at c.args.self.now refusal.UnknownField) = search rules in
    wrong_byte _ _ refusal.UnknownField _ c.in_ok-code.code (search rules) c.in_ok-code.ensures (unknown_field (search rules))

pub returns : goal.returns
returns c =
    let what : field_number c.in_ok-field.field ≡ c.in_ok-code.code = search rules in
    byte_given at_field at_thresholds c.args.self.now _ c.in_ok-code.code (field (field_number c.in_ok-field.field)) _ c.in_ok-code.ensures (cc) refl refl (field_follows c.in_ok-field.field) refl (λ ps e x. x)
