use Rattle.std.proofs.Common.{◌≡◌, drop}
use Rattle.std.specs.List.{list_all}
use Rattle.desk_tree_annotations.specs.Right.{Reading, IsRight}
use Rattle.desk_tree_annotations.proofs.expressions.are_expressions.Given as goal

abbrev pub invariant-loop-place : goal.invariant-loop-place
invariant-loop-place l = (r : Reading) → IsRight r
    → list_all r.is_expression (drop l.place l.listed) ≡ list_all r.is_expression l.listed
