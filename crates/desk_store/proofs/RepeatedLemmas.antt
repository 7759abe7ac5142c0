-- What is found among rows that were read all at once is what is found among all.
use Rattle.std.proofs.Common.{◌≡◌, ◌∙◌, ℕ, List, map, filter, ap}
use Rattle.std.specs.Prelude.{◌==◌, ◌&&◌, bytes_eq}
use Rattle.std.specs.Option.{option_map}
use Rattle.std.proofs.lemmas.Bool.{and_parts}
use Rattle.desk_model.specs.Conclusions.{office_text}
use Rattle.desk_model.specs.Keys.{is_choice_in, is_choice_of, is_conclusion}
use Rattle.desk_model.specs.declared.row.ChoiceRow.{ChoiceRow}
use Rattle.desk_model.specs.declared.row.ConclusionRow.{ConclusionRow}
use Rattle.desk_sorted.proofs.Placing.{within}
use Rattle.desk_sorted.proofs.Walking.{find_same}
use Rattle.desk_sql_layout.specs.Shown.{is_conclusion_in}

pub office_among : (d : ℕ) (id : List ℕ) (rows all : List ConclusionRow)
    → rows ≡ filter (is_conclusion_in d) all → office_text rows d id ≡ office_text all d id
office_among d id rows all are =
    let one = is_conclusion d id in
    ap (option_map (λ (row : ConclusionRow). row.expression))
    (find_same one rows all (ap (filter one) are
    ∙ within one (is_conclusion_in d)
    (λ row is. (and_parts (row.document == d) (bytes_eq row.package_id id) is).0) all))

pub terms_among : (r : List ℕ) (d : ℕ) (id : List ℕ) (rows all : List ChoiceRow)
    → rows ≡ filter (is_choice_in r) all
    → map (λ (row : ChoiceRow). row.term) (filter (is_choice_of r d id) rows)
    ≡ map (λ (row : ChoiceRow). row.term) (filter (is_choice_of r d id) all)
terms_among r d id rows all are =
    let own = is_choice_of r d id in
    ap (map (λ (row : ChoiceRow). row.term))
    (ap (filter own) are ∙ within own (is_choice_in r)
    (λ row is. (and_parts (bytes_eq row.release r) (row.document == d)
    (and_parts (bytes_eq row.release r && (row.document == d)) (bytes_eq row.package_id id)
    is).0).0) all)
