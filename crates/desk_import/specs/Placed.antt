-- The findings of a document in JSON, each with its place.
use Rattle.std.specs.Prelude.{ℕ, ◌-◌, ◌++◌, nat_le, List, length, take, codes, decimal}
use Rattle.std.specs.Prelude.{if◌then◌else◌}
use Rattle.std.specs.List.{flat_map}
use Rattle.desk_model.specs.declared.finding.Finding.{Finding}
use Rattle.desk_model.specs.FindingKinds.{kind_name}
use Rattle.desk_spdx_json.specs.Steps.{StepText}
use Rattle.desk_import.specs.Places.{place_behind}
use Rattle.desk_import.specs.declared.placed.PlacedFinding.{PlacedFinding}

-- a finding is at the place of the step that wrote its line; lines are counted from 1
abbrev pub placed : List StepText → Finding → PlacedFinding
placed steps f = record { kind = f.kind; at = place_behind steps (f.line - 1) }

-- ---- the text

-- the name of a finding and its place, on a line of their own behind others
abbrev pub placed_line : PlacedFinding → List ℕ
placed_line f = codes "\n" ++ (kind_name f.kind ++ (codes " at " ++ f.at))

-- how many more there are
abbrev pub more_line : ℕ → List ℕ
more_line count = codes "\nand " ++ (decimal count ++ codes " more")

-- the lines of the first 20 findings, then how many more there are
abbrev pub placed_text : List PlacedFinding → List ℕ
placed_text found = if nat_le (length found) 20 then flat_map placed_line found
    else flat_map placed_line (take 20 found) ++ more_line (length found - 20)
