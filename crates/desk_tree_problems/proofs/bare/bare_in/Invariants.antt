use Rattle.std.proofs.Common.{◌≡◌, take, map}
use Rattle.desk_tree_infos.specs.Sharing.{outline_in}
use Rattle.desk_tree_problems.specs.Bare.{bare_in}
use Rattle.desk_tree_problems.proofs.bare.bare_in.Given as goal

abbrev pub invariant-loop-file : goal.invariant-loop-file
invariant-loop-file l = l.bare ≡ bare_in (map outline_in (take l.file-index l.outlines))
