use Rattle.std.proofs.Common.{[], ℕ, List, take, map}
use Rattle.desk_tree_infos.specs.Firsts.{first_in}
use Rattle.desk_tree_lint.specs.Firsts.{Holds, first_mentions}
use Rattle.desk_tree_lint.proofs.naming.keep_firsts.Given as goal

-- the first of each key in the files so far is kept
abbrev pub invariant-loop-first : goal.invariant-loop-first
invariant-loop-first l = (keys : List (List ℕ)) → Holds keys [] l.initial.asked
    → Holds keys (first_mentions (map first_in (take l.first-index l.listed))) l.asked
