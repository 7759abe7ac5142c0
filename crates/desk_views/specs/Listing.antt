-- The lists of what a desk holds, written out.
use Rattle.std.specs.Prelude.{ℕ, Bool, List, Option, map, IsPermutation, if◌then◌else◌}
use Rattle.std.specs.List.{AllZip}
use Rattle.std.specs.List.Sorted.{IsSorted, IsSortedByKey}
use Rattle.std.specs.Ordering.{int_cmp}
use Rattle.desk_base.specs.declared.profile.Profile.{Profile}
use Rattle.desk_expr.specs.Tree.{Tree}
use Rattle.desk_snapshot.specs.declared.snapshot.Snapshot.{Snapshot}
use Rattle.desk_lists.specs.Columns.{columns_text}
use Rattle.desk_lists.specs.CsvTable.{csv_text}
use Rattle.desk_lists.specs.Documents.{IsDocumentLine}
use Rattle.desk_lists.specs.Duties.{lines_wanted, raising_order}
use Rattle.desk_lists.specs.Releases.{release_line}
use Rattle.desk_lists.specs.declared.lines.DocumentLine.{DocumentLine}
use Rattle.desk_lists.specs.declared.lines.DutyFilter.{DutyFilter}
use Rattle.desk_lists.specs.declared.lines.DutyLine.{DutyLine}
use Rattle.desk_lists.specs.declared.lines.ReleaseLine.{ReleaseLine}

-- the releases of these rows, by their places
abbrev pub AreReleases : Snapshot → List ReleaseLine → Type 0
AreReleases s lines = IsPermutation (map (release_line s.duty) s.releases) lines
    × IsSortedByKey (λ line. line.place) int_cmp lines

-- the documents of these rows, in their order
abbrev pub AreDocuments : (Profile → List ℕ → Option Tree) → Snapshot → List DocumentLine → Type 0
AreDocuments reads s lines = AllZip (IsDocumentLine reads s) s.document lines

-- the duties that a filter asks for, in the order in which they were raised
abbrev pub AreDuties : DutyFilter → Snapshot → List DutyLine → Type 0
AreDuties wanted s lines = IsPermutation (lines_wanted s wanted) lines
    × IsSorted raising_order lines

-- rows of cells in columns, or as comma-separated values
abbrev pub table_text : Bool → List (List (List ℕ)) → List ℕ
table_text in_columns rows = if in_columns then columns_text rows else csv_text rows
