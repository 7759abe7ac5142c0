use Rattle.desk_findings.proofs.Codes.{code_exists}
use Rattle.desk_findings.proofs.laws.code_exists.Goals as goal

pub returns : goal.returns
returns c = code_exists
