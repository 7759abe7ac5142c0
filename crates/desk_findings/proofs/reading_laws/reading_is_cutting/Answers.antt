use Rattle.desk_findings.proofs.EachCutting.{reading_is_cutting}
use Rattle.desk_findings.proofs.reading_laws.reading_is_cutting.Goals as goal

pub returns : goal.returns
returns c = reading_is_cutting
