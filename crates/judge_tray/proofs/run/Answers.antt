use Rattle.std.proofs.Common.{◌≡◌, length, arith}
use Rattle.judge_tray.proofs.run.Goals as goal

-- What was read is no more than the buffer has room for.
pub slice_bounds-run_tray-end : goal.slice_bounds-run_tray-end
slice_bounds-run_tray-end c =
    let lent : length c.deref_mut.result.now ≡ c.in_ok-buffer.buffer.len = c.deref_mut.ensures.len in
    omega (arith, c.in_ok-count.ensures, c.deref.ensures.len, lent)
