use Rattle.std.proofs.Common.{◌≡◌, ◌++◌, List, ℕ, map, filter, drop}
use Rattle.desk_model.specs.Keys.{is_choice_of}
use Rattle.desk_model.specs.declared.row.ChoiceRow.{ChoiceRow}
use Rattle.desk_sql_cache.proofs.repeated.terms_in.Given as goal

abbrev pub invariant-loop-row : goal.invariant-loop-row
invariant-loop-row l =
    let terms : List ChoiceRow → List (List ℕ) =
    λ rows. map (λ row. row.term)
    (filter (is_choice_of l.key.release.now l.key.document l.key.id.now) rows) in
    l.terms.items ++ terms (drop l.row-index l.row-items) ≡ terms l.row-items
