use Rattle.std.proofs.Common.{◌≡◌, take, map}
use Rattle.desk_tree_infos.specs.Sharing.{infos_at, outline_of, outline_in}
use Rattle.desk_tree_infos.proofs.infos.outlines_of.Given as goal

abbrev pub invariant-loop-file : goal.invariant-loop-file
invariant-loop-file l = map outline_in l.outlines.items
    ≡ map outline_of (infos_at l.all (take l.file-index l.files))
