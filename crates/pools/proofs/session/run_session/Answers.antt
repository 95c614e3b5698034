use Rattle.std.proofs.Common.{arith}
use Rattle.std.proofs.lemmas.Grind.{common_steps}
use Rattle.pools.proofs.Running.{run_goes_on}
use Rattle.pools.proofs.session.run_session.Goals as goal

pub loop-i-preserved : goal.loop-i-preserved
loop-i-preserved g c =
    let new = c.new-pool.result in
    let i = c.loop-i.i in
    let inv = c.loop-i.invariant in
    let one = c.one.ensures in
    let replies = c.loop-i.replies in (
      run_goes_on g.F.Field.arithmetic new.field new.policy new.words c.args.requests.now replies i c.loop-i.pool c.one.new.pool _ c.one.result
          (omega arith) (omega arith) inv.0 one.list one.frame one.answer,
      grind (arith, common_steps),
    )
