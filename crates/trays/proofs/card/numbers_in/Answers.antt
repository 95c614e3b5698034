use Rattle.std.proofs.Common.{◌≡◌, ◌/◌, [], length, take, arith}
use Rattle.std.proofs.lemmas.List.{take_all}
use Rattle.trays.proofs.Numbers.{one_written, of_chunks}
use Rattle.trays.proofs.card.numbers_in.Goals as goal

pub loop-i-preserved : goal.loop-i-preserved
loop-i-preserved c =
    let next = one_written c.as_chunks.result.0.now c.loop-i.i 16 [] c.loop-i-test.true (omega arith) in
    cc

pub returns : goal.returns
returns c = λ count long.
    let bytes = c.args.bytes.now in
    let chunks = c.as_chunks.result.0.now in
    let n : length bytes / 4 ≡ count = omega arith in
    let i : c.loop-i.i ≡ count = omega arith in
    let all : take c.loop-i.i chunks ≡ chunks = take_all c.loop-i.i chunks c.loop-i-test.false in
    let whole = of_chunks (length bytes / 4) bytes in
    cc
