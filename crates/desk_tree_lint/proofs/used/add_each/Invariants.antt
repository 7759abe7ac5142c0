use Rattle.std.proofs.Common.{◌↔◌, ◌⊎◌, ℕ, List, drop}
use Rattle.std.specs.Prelude.{Contains}
use Rattle.desk_tree_lint.specs.Used.{IsUsedIn}
use Rattle.desk_tree_lint.proofs.used.add_each.Given as goal

-- what was added, and what is still to come, is all that is used
abbrev pub invariant-loop-licence : goal.invariant-loop-licence
invariant-loop-licence l = (key : List ℕ)
    → (Contains l.keys key ⊎ IsUsedIn (drop l.licence-index l.licences) key)
    ↔ (Contains l.initial.keys key ⊎ IsUsedIn l.licences key)
