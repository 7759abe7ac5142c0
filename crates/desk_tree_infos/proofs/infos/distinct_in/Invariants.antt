use Rattle.std.proofs.Common.{◌≡◌, take, map}
use Rattle.desk_tree_infos.specs.Firsts.{first_in, first_texts}
use Rattle.desk_tree_infos.proofs.infos.distinct_in.Given as goal

abbrev pub invariant-loop-first : goal.invariant-loop-first
invariant-loop-first l = l.list.items ≡ first_texts (map first_in (take l.first-index l.firsts))
