use Rattle.desk_tagvalue.specs.Documents.{document_text}
use Rattle.desk_inspect.proofs.held.summary_in.Goals as goal

pub returns-in-Ok-summary_of : goal.returns-in-Ok-summary_of
returns-in-Ok-summary_of c = λ reads right. (
  document_text c.in-Ok.document,
  c.in-Ok.ensures.ok,
  c.in-Ok-summary_of.ensures.found reads right,
)
