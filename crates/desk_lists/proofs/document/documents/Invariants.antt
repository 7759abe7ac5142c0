use Rattle.std.proofs.Common.{ℕ, List, Option, take}
use Rattle.std.specs.List.{AllZip}
use Rattle.desk_base.specs.declared.profile.Profile.{Profile}
use Rattle.desk_expr.specs.Tree.{Tree}
use Rattle.desk_lists.specs.Documents.{AreReadings, IsDocumentLine}
use Rattle.desk_lists.proofs.document.documents.Given as goal

-- the line of each document before the index
abbrev pub invariant-loop-row : goal.invariant-loop-row
invariant-loop-row l = (reads : Profile → List ℕ → Option Tree) → AreReadings reads
    → AllZip (IsDocumentLine reads l.snapshot) (take l.row-index l.row-items) l.lines.items
