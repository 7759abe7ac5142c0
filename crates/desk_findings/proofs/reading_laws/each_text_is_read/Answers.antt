use Rattle.desk_findings.proofs.EachText.{each_text}
use Rattle.desk_findings.proofs.reading_laws.each_text_is_read.Goals as goal

pub returns : goal.returns
returns c = each_text
