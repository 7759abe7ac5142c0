use Rattle.desk_findings.proofs.States.{state_exists}
use Rattle.desk_findings.proofs.laws.state_exists.Goals as goal

pub returns : goal.returns
returns c = state_exists
