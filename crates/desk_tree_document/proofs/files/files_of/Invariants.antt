use Rattle.std.proofs.Common.{◌≡◌, drop}
use Rattle.desk_tree_infos.specs.Readers.{Reader, IsRightReader}
use Rattle.desk_tree_document.specs.Told.{files_told}
use Rattle.desk_tree_document.proofs.files.files_of.Given as goal
use Rattle.desk_base.proofs.Results.{onto}

-- the files so far, and those of the rest, are those of all
abbrev pub invariant-loop-place : goal.invariant-loop-place
invariant-loop-place l = (r : Reader) → IsRightReader r
    → onto l.files.items (files_told r (drop l.place l.told)) ≡ files_told r l.told
