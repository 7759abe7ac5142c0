use Rattle.desk_findings.proofs.EachDocument.{each_document}
use Rattle.desk_findings.proofs.reading_laws.each_document_is_read.Goals as goal

pub returns : goal.returns
returns c = each_document
