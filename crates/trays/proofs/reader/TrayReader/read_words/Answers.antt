use Rattle.std.proofs.Common.{◌≡◌, Err, Ok, refl, sym, ap, ◌∙◌, rules}
use Rattle.sharing.specs.Refusals.{number, refused as refused_by}
use Rattle.trays.specs.Layout.{at_words, at_count, words, some_words, wrong_words}
use Rattle.trays.proofs.OneWay.{no_words}
use Rattle.trays.proofs.Requests.{no_byte, wrong_byte, byte_given, words_refused, words_taken}
use Rattle.trays.proofs.reader.TrayReader.read_words.Goals as goal

pub returns-in_err-code : goal.returns-in_err-code
returns-in_err-code c =
    no_byte _ _ _ (search rules) c.in_err-code.ensures.0 no_words

pub returns-in_err-words : goal.returns-in_err-words
returns-in_err-words c =
    let fault = c.in_err-words.field-0.0 in
    let why : c.new.result ≡ Err fault.refusal = search rules in
    let what : fault ≡ record { refusal = fault.refusal; offset = c.args.self.now.position } = search rules in
    let no = words_refused c.in_ok-code.code (number fault.refusal) (ap refused_by (sym why) ∙ c.new.ensures.answer) in
    wrong_byte _ _ fault.refusal _ c.in_ok-code.code (search rules) c.in_ok-code.ensures (rw no.0 (wrong_words no.1))

pub returns : goal.returns
returns c =
    let why : c.new.result ≡ Ok c.in_ok-words.words = search rules in
    let what : c.in_ok-words.words ≡ c.in_ok-code.code = search rules in
    let yes = words_taken c.in_ok-code.code (ap refused_by (sym why) ∙ c.new.ensures.answer) in
    byte_given at_words (at_count c.in_ok-code.code) c.args.self.now _ c.in_ok-code.code (words c.in_ok-code.code) _ c.in_ok-code.ensures (cc) refl refl (some_words yes.0 yes.1) refl (λ ps e x. rw what x)
