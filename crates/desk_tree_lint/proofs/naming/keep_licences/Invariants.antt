use Rattle.std.proofs.Common.{◌++◌, ℕ, List, take}
use Rattle.std.specs.List.{flat_map}
use Rattle.desk_tree_lint.specs.Firsts.{Holds}
use Rattle.desk_tree_lint.specs.Naming.{MentionText, mentions_by}
use Rattle.desk_tree_lint.proofs.naming.keep_licences.Given as goal

abbrev pub invariant-loop-licence : goal.invariant-loop-licence
invariant-loop-licence l = (keys : List (List ℕ)) (ms : List MentionText)
    → Holds keys ms l.initial.asked
    → Holds keys (ms ++ flat_map (mentions_by l.path) (take l.licence-index l.licences)) l.asked
