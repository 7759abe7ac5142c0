use Rattle.std.proofs.Common.{◌≡◌, ◌++◌, drop, map}
use Rattle.desk_spdx_json.specs.Elements.{element_text}
use Rattle.desk_cyclonedx.specs.Components.{elements_of}
use Rattle.desk_cyclonedx.specs.Placed.{placed_text}
use Rattle.desk_cyclonedx.proofs.components.elements_of.Given as goal

-- what was found and what is still to come is everything
abbrev pub invariant-loop-one : goal.invariant-loop-one
invariant-loop-one l =
    map element_text l.elements.items ++ elements_of (map placed_text (drop l.one-index l.placed))
    ≡ elements_of (map placed_text l.placed)
