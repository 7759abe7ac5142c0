use Rattle.std.proofs.Common.{◌≡◌, map, take}
use Rattle.desk_tagvalue.specs.declared.drafts.DraftFile.{DraftFile}
use Rattle.desk_tree_document.proofs.files.digests_of.Given as goal

abbrev pub invariant-loop-file : goal.invariant-loop-file
invariant-loop-file l = l.digests.items
    ≡ map (λ (f : DraftFile). f.digest) (take l.file-index l.files)
