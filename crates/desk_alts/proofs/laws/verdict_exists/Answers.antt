use Rattle.desk_alts.proofs.Verdicts.{verdict}
use Rattle.desk_alts.proofs.laws.verdict_exists.Goals as goal

pub returns : goal.returns
returns c = verdict
