-- What `lint` writes, and the status that it returns.
use Rattle.std.specs.Prelude.{◌≡◌, ℕ, Bool, List, if◌then◌else◌}
use Rattle.desk_tree_gather.specs.declared.files.SourceFile.{SourceFile}
use Rattle.desk_tree_infos.specs.Readers.{Reader}
use Rattle.desk_tree_reports.specs.declared.reports.Report.{Report}
use Rattle.desk_tree_reports.specs.Reports.{IsReport}

-- the program's status: done if the tree has no problem, and else refused
abbrev pub lint_status : Report → ℕ
lint_status report = if report.is_clean then 0 else 1

-- the text and the status for the problems of a tree
abbrev pub Lints : Reader → List SourceFile → Bool → List ℕ → ℕ → Type 0
Lints r files json text status = (report : Report) × IsReport r files json report
    × (text ≡ report.text) × (status ≡ lint_status report)
