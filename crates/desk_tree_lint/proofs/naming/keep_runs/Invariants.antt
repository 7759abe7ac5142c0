use Rattle.std.proofs.Common.{◌++◌, ℕ, List, map, take}
use Rattle.desk_base.specs.Borrowed.{texts}
use Rattle.desk_tree_lint.specs.Firsts.{Holds}
use Rattle.desk_tree_lint.specs.Naming.{MentionText, ids_in, mention}
use Rattle.desk_tree_lint.proofs.naming.keep_runs.Given as goal

abbrev pub invariant-loop-run : goal.invariant-loop-run
invariant-loop-run l = (keys : List (List ℕ)) (ms : List MentionText)
    → Holds keys ms l.initial.asked
    → Holds keys (ms ++ map (mention l.path) (ids_in (texts (take l.run-index l.runs)))) l.asked
