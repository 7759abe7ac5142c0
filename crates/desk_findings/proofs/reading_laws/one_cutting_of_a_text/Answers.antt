use Rattle.desk_findings.proofs.EachCutting.{one_cutting}
use Rattle.desk_findings.proofs.reading_laws.one_cutting_of_a_text.Goals as goal

pub returns : goal.returns
returns c = one_cutting
