use Rattle.std.proofs.Common.{◌≡◌, drop}
use Rattle.std.specs.List.{list_any}
use Rattle.desk_tree_gather.specs.Blanks.{has_blank_end}
use Rattle.desk_tree_gather.proofs.blanks.has_blank.Given as goal

abbrev pub invariant-loop-place : goal.invariant-loop-place
invariant-loop-place l = list_any has_blank_end (drop l.place l.licences)
    ≡ list_any has_blank_end l.licences
