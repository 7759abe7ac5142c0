use Rattle.std.proofs.Common.{◌≡◌, ◌++◌, ℕ, List, Option, drop}
use Rattle.std.specs.Prelude.{map}
use Rattle.std.specs.String.{string_bytes}
use Rattle.desk_expr.specs.Tree.{Tree}
use Rattle.desk_findings.specs.Fields.{IsReading}
use Rattle.desk_tagvalue.specs.Views.{package_text}
use Rattle.desk_import.specs.Proposals.{AreLines}
use Rattle.desk_import.specs.Summaries.{standings_of}
use Rattle.desk_import.proofs.proposals.proposals_for.Given as goal

abbrev pub invariant-loop-text : goal.invariant-loop-text
invariant-loop-text l = (reads : List ℕ → Option Tree) → IsReading l.profile reads
    → (l.standings.items ++ standings_of reads (map package_text (drop l.text-index l.packages))
    l.rest ≡ standings_of reads (map package_text l.packages) l.marks)
    × ((rest : List ℕ) → AreLines reads l.document (map package_text (drop l.text-index l.packages))
    (standings_of reads (map package_text (drop l.text-index l.packages)) l.rest) rest
    → AreLines reads l.document (map package_text l.packages)
    (standings_of reads (map package_text l.packages) l.marks) (string_bytes l.lines ++ rest))
