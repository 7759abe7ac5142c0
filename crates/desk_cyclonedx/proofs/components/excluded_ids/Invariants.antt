use Rattle.std.proofs.Common.{◌≡◌, ◌++◌, drop, map}
use Rattle.desk_base.specs.Borrowed.{texts}
use Rattle.desk_cyclonedx.specs.Components.{excluded_ids}
use Rattle.desk_cyclonedx.specs.Placed.{placed_text}
use Rattle.desk_cyclonedx.proofs.components.excluded_ids.Given as goal

-- what was found and what is still to come is everything
abbrev pub invariant-loop-one : goal.invariant-loop-one
invariant-loop-one l =
    texts l.ids.items ++ excluded_ids (map placed_text (drop l.one-index l.placed))
    ≡ excluded_ids (map placed_text l.placed)
