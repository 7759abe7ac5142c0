use Rattle.std.proofs.Common.{◌≡◌, map, drop}
use Rattle.desk_audit_texts.proofs.documents.are_profiled.Given as goal

-- the rows are those of the documents if and only if the rest are those of the rest
abbrev pub invariant-loop-document : goal.invariant-loop-document
invariant-loop-document l =
    let rest = map (λ row. row.document) l.rest
    ≡ map (λ row. row.number) (drop l.document-index l.documents) in
    let all = map (λ row. row.document) l.readings ≡ map (λ row. row.number) l.documents in
    (rest → all) × (all → rest)
