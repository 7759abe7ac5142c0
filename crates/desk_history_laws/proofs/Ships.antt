-- What is kept of a document: what ships by the least set of elements that do; each document has
-- one such set.
use Rattle.std.proofs.Common.{◌≡◌, ◌∙◌, sym, ap, refl}
use Rattle.std.specs.Prelude.{Result, Ok, Err}
use Rattle.desk_findings.proofs.Ships.{one_marks, some_marks}
use Rattle.desk_fields.specs.declared.fault.DocFault.{DocFault}
use Rattle.desk_model.specs.declared.reading.Document.{Document}
use Rattle.desk_model.specs.declared.refusal.DocumentFault.{DocumentFault}
use Rattle.desk_tagvalue.specs.Parts.{DocumentText}
use Rattle.desk_texts.specs.Documents.{document_of, fault_of, Keeps}

pub something_kept : (read : Result DocumentText DocFault)
    → (kept : Result Document DocumentFault) × Keeps read kept
something_kept (Ok d) = let marks = some_marks d in
    (Ok (document_of marks.0 d), (marks.0, marks.1, refl))
something_kept (Err f) = (Err (fault_of f), refl)

pub kept_once : (read : Result DocumentText DocFault) (a b : Result Document DocumentFault)
    → Keeps read a → Keeps read b → a ≡ b
kept_once (Ok d) a b (as', are, is) (bs, are', is') = is
    ∙ ap (λ marks. Ok (document_of marks d)) (one_marks d as' bs are are') ∙ sym is'
kept_once (Err f) a b is is' = is ∙ sym is'
