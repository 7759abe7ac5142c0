use Rattle.desk_findings.proofs.EachCutting.{each_text_is_cut}
use Rattle.desk_findings.proofs.reading_laws.each_text_is_cut.Goals as goal

pub returns : goal.returns
returns c = each_text_is_cut
