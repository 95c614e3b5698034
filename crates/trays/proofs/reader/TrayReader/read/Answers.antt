use Rattle.std.proofs.Common.{rules}
use Rattle.trays.proofs.Requests.{at_end}
use Rattle.trays.proofs.reader.TrayReader.read.Goals as goal

pub returns-in-Cards-default-eq0 : goal.returns-in-Cards-default-eq0
returns-in-Cards-default-eq0 c = at_end c.in-Cards-default-eq0.words _ _ _ (search rules) (search rules)
