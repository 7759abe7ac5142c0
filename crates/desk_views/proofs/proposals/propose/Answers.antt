use Rattle.std.proofs.Common.{inl, inr}
use Rattle.std.proofs.lemmas.Result.{IfOk-weaker}
use Rattle.desk_tagvalue.specs.Documents.{document_text}
use Rattle.desk_views.proofs.proposals.propose.Goals as goal

pub returns-in-Ok-clause-told : goal.returns-in-Ok-clause-told
returns-in-Ok-clause-told g c = λ w reads right is.
    IfOk-weaker c.write_proposals.result _ _
    (λ status h. (h.0, inl (document_text c.in-Ok.document, c.in-Ok.ensures.ok, h.1), h.2))
    (c.write_proposals.ensures.told reads is)

pub returns-in-Err-clause-told : goal.returns-in-Err-clause-told
returns-in-Err-clause-told g c = λ w reads right is. IfOk-weaker c.refuse_document.result _ _
    (λ status h. (h.0, inr h.1, h.2)) (c.refuse_document.ensures.told w right)
