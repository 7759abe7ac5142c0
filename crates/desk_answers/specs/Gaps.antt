-- What is missing for the notices of a release, as a list.
use Rattle.std.specs.Prelude.{ℕ, Bool, List, ◌∷◌, map, if◌then◌else◌}
use Rattle.desk_lists.specs.Columns.{columns_text}
use Rattle.desk_lists.specs.CsvTable.{csv_text}
use Rattle.desk_model.specs.declared.gap.Gap.{Gap}
use Rattle.desk_answers.specs.Rows.{gap_cells, gap_names}

-- the names, and the cells of each gap
abbrev pub gap_table : List Gap → List (List (List ℕ))
gap_table gaps = gap_names ∷ map gap_cells gaps

-- in columns for a terminal, else as comma-separated values
abbrev pub gaps_text : Bool → List Gap → List ℕ
gaps_text is_terminal gaps = if is_terminal then columns_text (gap_table gaps)
    else csv_text (gap_table gaps)
