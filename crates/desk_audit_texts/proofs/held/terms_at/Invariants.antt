use Rattle.std.proofs.Common.{◌≡◌, ◌++◌, List, ℕ, map, filter, drop}
use Rattle.desk_snapshot.specs.Rows.{is_choice_of}
use Rattle.desk_snapshot.specs.declared.rows.StoredChoice.{StoredChoice}
use Rattle.desk_audit_texts.proofs.held.terms_at.Given as goal

abbrev pub invariant-loop-other : goal.invariant-loop-other
invariant-loop-other l =
    let terms : List StoredChoice → List (List ℕ) =
    λ rows. map (λ row. row.term)
    (filter (is_choice_of l.row.release l.row.document l.row.package_id) rows) in
    l.terms ++ terms (drop l.other-index l.other-items) ≡ terms l.other-items
