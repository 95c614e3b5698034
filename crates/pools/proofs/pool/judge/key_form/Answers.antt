use Rattle.pools.proofs.Equations.{reads_last}
use Rattle.pools.proofs.pool.judge.key_form.Goals as goal

pub returns : goal.returns
returns c = record { reads = λ k l. rw c.default-form.ensures (reads_last 32 c.args.top c.requires.0 c.requires.1 k l) }
