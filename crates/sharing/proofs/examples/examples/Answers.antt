use Rattle.sharing.proofs.Worked.{worked_examples}
use Rattle.sharing.proofs.examples.examples.Goals as goal

pub returns : goal.returns
returns c = worked_examples
