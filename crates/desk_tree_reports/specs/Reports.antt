-- The report on a tree, as lines or as one JSON object (RFC 8259).
use Rattle.std.specs.Prelude.{◌≡◌, ℕ, ◌==◌, nat_eq, count_by, Bool, true, false}
use Rattle.std.specs.Prelude.{List, [], ◌∷◌, ◌++◌, map, length, codes, decimal}
use Rattle.std.specs.Prelude.{if◌then◌else◌}
use Rattle.std.specs.List.{flat_map}
use Rattle.serde_json.specs.Data.{Data, number, unsigned, array, object, no_members, member}
use Rattle.serde_json.specs.View.{items_of}
use Rattle.serde_json.specs.Written.{compact_text}
use Rattle.desk_tree_gather.specs.declared.files.SourceFile.{SourceFile}
use Rattle.desk_tree_infos.specs.Readers.{Reader}
use Rattle.desk_tree_problems.specs.declared.problems.Problems.{Problems}
use Rattle.desk_tree_reports.specs.declared.reports.Report.{Report}
use Rattle.desk_tree_problems.specs.declared.row.Kind.{Kind}
use Rattle.desk_tree_problems.specs.declared.row.Kind.TheVariants.{BlankAtEnd}
use Rattle.desk_tree_problems.specs.declared.row.Row.{Row}
use Rattle.desk_tree_reports.specs.Items.{row_value}
use Rattle.desk_tree_reports.specs.Lines.{row_line, line_of_kind}
use Rattle.desk_tree_problems.specs.Problems.{AreProblems}
use Rattle.desk_tree_problems.specs.Rows.{kind_name, kind_number, kinds, AreRows}

-- ---- lines

-- how many rows are of a kind
abbrev pub count_of : Kind → List Row → ℕ
count_of kind rows = count_by (λ (row : Row). nat_eq (kind_number row.kind) (kind_number kind)) rows

-- a kind with how many there are, if there are some
abbrev pub some_count : Kind → ℕ → List ℕ
some_count kind count = if count == 0 then []
    else codes ", " ++ (kind_name kind ++ (codes ": " ++ decimal count))

-- those of several kinds, in order
abbrev pub counts_of : List Kind → List Row → List ℕ
counts_of some rows = flat_map (λ kind. some_count kind (count_of kind rows)) some

-- the counts by kind, or that there is nothing to count
abbrev pub counts : List Row → List ℕ
counts rows = if length rows == 0 then codes "; nothing is wrong by the desk's rules"
    else counts_of kinds rows

-- the last line: how many problems, how many covered files, and the counts by kind
abbrev pub summary : List Row → ℕ → List ℕ
summary rows covered = codes "problems: "
    ++ (decimal (length rows) ++ (codes ", covered files: "
    ++ (decimal covered ++ (counts rows ++ codes "\n"))))

-- a line for each row, and the summary
abbrev pub lines_text : List Row → ℕ → List ℕ
lines_text rows covered = flat_map row_line rows ++ summary rows covered

-- ---- JSON

-- the report as an object: the number of covered files, and the rows
abbrev pub report_value : List Row → ℕ → Data
report_value rows covered = object
    (member (codes "covered") (number (unsigned covered))
    (member (codes "problems") (array (items_of (map row_value rows))) no_members))

-- the object without blanks, and a line feed
abbrev pub json_text : List Row → ℕ → List ℕ
json_text rows covered = compact_text (report_value rows covered) ++ codes "\n"

-- ---- the whole

-- the report in the form that is asked for: JSON if so, else lines
abbrev pub text_of : Bool → List Row → ℕ → List ℕ
text_of true rows covered = json_text rows covered
text_of false rows covered = lines_text rows covered

-- there are no rows
abbrev pub is_none : List Row → Bool
is_none [] = true
is_none (row ∷ rows) = false

-- the report on a tree: the rows of its problems; it is clean where it has none
pub record IsReport (r : Reader) (files : List SourceFile) (json : Bool)
    (report : Report) : Type 0 where
  pub problems : Problems
  pub rows : List Row
  pub are_problems : AreProblems r files problems
  pub are_rows : AreRows problems rows
  pub text : report.text ≡ text_of json rows problems.covered
  pub clean : report.is_clean ≡ is_none rows

-- the lines for those problems of a tree that are licences that no document can hold
pub record AreBlankLines (r : Reader) (files : List SourceFile) (text : List ℕ) : Type 0 where
  pub problems : Problems
  pub rows : List Row
  pub are_problems : AreProblems r files problems
  pub are_rows : AreRows problems rows
  pub are_lines : text ≡ flat_map (line_of_kind BlankAtEnd) rows
