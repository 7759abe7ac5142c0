use Rattle.std.proofs.Common.{◌≡◌, take}
use Rattle.desk_tree_infos.specs.Sharing.{infos_at}
use Rattle.desk_tree_infos.proofs.infos.all_infos.Given as goal

abbrev pub invariant-loop-file : goal.invariant-loop-file
invariant-loop-file l = l.infos.items ≡ infos_at l.all (take l.file-index l.files)
