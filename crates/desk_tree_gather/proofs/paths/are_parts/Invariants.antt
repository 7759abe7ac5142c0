use Rattle.std.proofs.Common.{◌≡◌, drop}
use Rattle.std.specs.List.{list_all}
use Rattle.desk_tree_gather.specs.Paths.{is_part}
use Rattle.desk_tree_gather.proofs.paths.are_parts.Given as goal
use Rattle.desk_base.specs.Borrowed.{texts}

abbrev pub invariant-loop-part : goal.invariant-loop-part
invariant-loop-part l = list_all is_part (texts (drop l.part-index l.parts))
    ≡ list_all is_part (texts l.parts)
