use Rattle.std.proofs.Common.{◌↔◌, ◌⊎◌, ℕ, List, drop, map}
use Rattle.std.specs.Prelude.{Contains}
use Rattle.desk_tree_infos.specs.Firsts.{first_in}
use Rattle.desk_tree_lint.specs.Used.{IsFirstUsed}
use Rattle.desk_tree_lint.proofs.used.each_used.Given as goal

-- what was added, and what is still to come, is all that is used
abbrev pub invariant-loop-first : goal.invariant-loop-first
invariant-loop-first l = (key : List ℕ)
    → (Contains l.keys key ⊎ IsFirstUsed (map first_in (drop l.first-index l.firsts)) key)
    ↔ IsFirstUsed (map first_in l.firsts) key
