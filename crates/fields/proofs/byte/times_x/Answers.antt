use Rattle.std.proofs.Common.{◌≡◌, ℕ, ◌*◌, ◌/◌, ◌%◌, ◌<◌, arith}
use lib.Bits.{xor_zero_r}
use Rattle.fields.specs.Bytes.{if_set, xtime}
use Rattle.fields.proofs.byte.times_x.Goals as goal

whole : (a : ℕ) → a < 256 → a * 2 % 4294967296 ≡ a * 2
whole a h = omega arith

pub returns-then-a-ge128 : goal.returns-then-a-ge128
unfolding if_set xtime
returns-then-a-ge128 c =
    let e : c.args.a / 128 % 2 ≡ 1 = omega arith in
    let w = whole c.args.a c.requires in
    simp (e, w)

pub returns-else-a-ge128 : goal.returns-else-a-ge128
unfolding if_set xtime
returns-else-a-ge128 c =
    let e : c.args.a / 128 % 2 ≡ 0 = omega arith in
    let w = whole c.args.a c.requires in
    simp (e, w, xor_zero_r)
