use Rattle.std.proofs.Common.{◌≡◌, drop}
use Rattle.desk_tree_infos.specs.Readers.{Reader, IsRightReader}
use Rattle.desk_tree_gather.specs.Paths.{is_toml}
use Rattle.desk_tree_gather.specs.Trees.{each}
use Rattle.desk_tree_gather.specs.Tomls.{toml_of, tomls_of}
use Rattle.desk_tree_infos.specs.Tomls.{tomls_in}
use Rattle.desk_tree_gather.specs.Shown.{files_of}
use Rattle.desk_tree_gather.proofs.tomls.tomls_of.Given as goal
use Rattle.desk_base.proofs.Results.{onto}

-- what is read so far, and what the rest gives, is that of all
abbrev pub invariant-loop-file : goal.invariant-loop-file
invariant-loop-file l = (r : Reader) → IsRightReader r
    → onto (tomls_in l.tomls.items)
    (each is_toml (toml_of r) (files_of (drop l.file-index l.files)))
    ≡ tomls_of r (files_of l.files)
