use Rattle.std.proofs.Common.{◌≡◌, ◌+◌, ◌-◌, ◌≤◌, [], ◌∷◌, length, refl, arith}
use Rattle.std.proofs.lemmas.Result.{err_from_is_err_and}
use Rattle.trays.specs.Fields.{field_number}
use Rattle.trays.specs.Layout.{field, thresholds, words, placed, written, at_words, at_count}
use Rattle.reports.proofs.Openings.{ReadSoFar, begun, left_over, still_to_come, to_come, early, misfit, field_there, field_read, thresholds_there, thresholds_read, words_there, words_read, count_there, count_read}
use Rattle.reports.proofs.opening.open.Goals as goal
use Rattle.reports.proofs.opening.open.Goals.{In-Thresholds, In-Words}

pub returns-in_err-field-clause-parts : goal.returns-in_err-field-clause-parts
returns-in_err-field-clause-parts c =
    let p = err_from_is_err_and c.from_residual.result c.from_residual.ensures.1 in
    rw p.1 (early (begun c.args.reader.now c.requires) c.part.new.reader c.in_err-field.field-0.0 c.in_err-field.ensures.reads (omega arith) tt p.0 p.2)

pub unreachable-requires : goal.unreachable-requires
unreachable-requires c =
    let there = field_there c.part.new.reader c.in_ok-field.field-0 c.in_ok-field.ensures.reads (begun c.args.reader.now c.requires) in
    c.in_default.not-Field there.0 there.1

pub part-requires-2 : goal.part-requires-2
part-requires-2 c =
    to_come (field_read c.part.new.reader c.in_ok-field.field-0 c.in_ok-field.ensures.reads (begun c.args.reader.now c.requires) c.in-Field.field c.in-Field.is) (λ w e. cc)

pub returns-in_err-bytes-clause-parts : goal.returns-in_err-bytes-clause-parts
returns-in_err-bytes-clause-parts c =
    let f = field_read c.part.new.reader c.in_ok-field.field-0 c.in_ok-field.ensures.reads (begun c.args.reader.now c.requires) c.in-Field.field c.in-Field.is in
    let p = err_from_is_err_and c.from_residual-in_err-bytes.result c.from_residual-in_err-bytes.ensures.1 in
    rw p.1 (early f c.part-2.new.reader c.in_err-bytes.field-0.0 c.in_err-bytes.ensures.reads (omega arith) (refl, tt) p.0 p.2)

pub unreachable-requires-in_default-2 : goal.unreachable-requires-in_default-2
unreachable-requires-in_default-2 c =
    let f = field_read c.part.new.reader c.in_ok-field.field-0 c.in_ok-field.ensures.reads (begun c.args.reader.now c.requires) c.in-Field.field c.in-Field.is in
    let there = thresholds_there c.part-2.new.reader c.in_ok-bytes.field-0 c.in_ok-bytes.ensures.reads f in
    c.in_default-2.not-Thresholds there.0 there.1 there.2

-- the field and the thresholds are read
levels : (c : In-Thresholds)
    → (c.in-Thresholds.offset ≡ 0 + 1 + 1)
    × ReadSoFar c.args.reader.now c.part-2.new.reader (placed 0 (field (field_number c.in-Field.field) ∷ thresholds c.in-Thresholds.bytes.now ∷ [])) at_words (0 + 1 + length (written (thresholds c.in-Thresholds.bytes.now)))
levels c =
    let f = field_read c.part.new.reader c.in_ok-field.field-0 c.in_ok-field.ensures.reads (begun c.args.reader.now c.requires) c.in-Field.field c.in-Field.is in
    thresholds_read c.part-2.new.reader c.in_ok-bytes.field-0 c.in_ok-bytes.ensures.reads f c.in-Thresholds.bytes c.in-Thresholds.offset c.in-Thresholds.is

pub policy_at-requires : goal.policy_at-requires
policy_at-requires c = omega (arith, (levels (goal.at.policy_at-requires c).In-Thresholds).0)

pub returns-in_err-policy-clause-parts : goal.returns-in_err-policy-clause-parts
returns-in_err-policy-clause-parts c =
    let so = levels (goal.at.returns-in_err-policy-clause-parts c).In-Thresholds in
    let p = err_from_is_err_and c.from_residual-in_err-policy.result c.from_residual-in_err-policy.ensures.1 in
    let bad = c.in_err-policy.ensures in
    let one : c.in-Thresholds.offset - 1 ≡ 0 + 1 = omega (arith, so.0) in
    rw (p.1, p.2) (misfit so.1 bad.0 bad.1 c.in_err-policy.field-0.0 (rw one at bad.2))

pub part-requires-3 : goal.part-requires-3
part-requires-3 c = to_come (levels (goal.at.part-requires-3 c).In-Thresholds).1 (λ w e. cc)

pub returns-in_err-words-clause-parts : goal.returns-in_err-words-clause-parts
returns-in_err-words-clause-parts c =
    let so = levels (goal.at.returns-in_err-words-clause-parts c).In-Thresholds in
    let p = err_from_is_err_and c.from_residual-in_err-words.result c.from_residual-in_err-words.ensures.1 in
    rw p.1 (early so.1 c.part-3.new.reader c.in_err-words.field-0.0 c.in_err-words.ensures.reads (omega arith) (refl, (c.in_ok-policy.ensures.1, tt)) p.0 p.2)

pub unreachable-requires-in_default-3 : goal.unreachable-requires-in_default-3
unreachable-requires-in_default-3 c =
    let so = levels (goal.at.unreachable-requires-in_default-3 c).In-Thresholds in
    let there = words_there c.part-3.new.reader c.in_ok-words.field-0 c.in_ok-words.ensures.reads so.1 in
    c.in_default-3.not-Words there.0 there.1

-- so is the number of words
counted : (c : In-Words)
    → (1 ≤ c.in-Words.words) × (c.in-Words.words ≤ 16)
    × ReadSoFar c.args.reader.now c.part-3.new.reader (placed 0 (field (field_number c.in-Field.field) ∷ thresholds c.in-Thresholds.bytes.now ∷ words c.in-Words.words ∷ []))
    (at_count c.in-Words.words) (0 + 1 + length (written (thresholds c.in-Thresholds.bytes.now)) + 1)
counted c =
    let so = levels (goal.at.word_count-words-requires c).In-Thresholds in
    words_read c.part-3.new.reader c.in_ok-words.field-0 c.in_ok-words.ensures.reads so.1 c.in-Words.words c.in-Words.is

pub word_count-words-requires : goal.word_count-words-requires
word_count-words-requires c = let so = counted c in (omega (arith, so.0), omega (arith, so.1))

pub part-requires-4 : goal.part-requires-4
part-requires-4 c = to_come (counted (goal.at.part-requires-4 c).In-Words).2 (λ w e. cc)

pub returns-in_err-cards-clause-parts : goal.returns-in_err-cards-clause-parts
returns-in_err-cards-clause-parts c =
    let so = counted (goal.at.returns-in_err-cards-clause-parts c).In-Words in
    let p = err_from_is_err_and c.from_residual-in_err-cards.result c.from_residual-in_err-cards.ensures.1 in
    rw p.1 (early so.2 c.part-4.new.reader c.in_err-cards.field-0.0 c.in_err-cards.ensures.reads (omega arith) (refl, (c.in_ok-policy.ensures.1, (refl, tt))) p.0 p.2)

pub unreachable-requires-in_default-4 : goal.unreachable-requires-in_default-4
unreachable-requires-in_default-4 c =
    let so = counted (goal.at.unreachable-requires-in_default-4 c).In-Words in
    let there = count_there c.part-4.new.reader c.in_ok-cards.field-0 c.in_ok-cards.ensures.reads c.in-Words.words so.2 in
    c.in_default-4.not-CardCount there.0 there.1

pub returns : goal.returns
returns c =
    let so = counted (goal.at.returns c).In-Words in
    let all = count_read c.part-4.new.reader c.in_ok-cards.field-0 c.in_ok-cards.ensures.reads so.2 c.in-CardCount.cards c.in-CardCount.is in
    rw (c.in_ok-policy.ensures.0, c.word_count-words.ensures)
    (record {
      parts = λ parts e r. let (cards, split, left) = left_over all parts e r in (cards, record { parts_are = split; fits = c.in_ok-policy.ensures.1; left = left });
      ready = λ ps e r. let (bytes, reads) = still_to_come all ps e r in (_, bytes, reads);
    })
