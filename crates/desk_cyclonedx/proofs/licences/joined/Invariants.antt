use Rattle.std.proofs.Common.{◌≡◌, [], drop}
use Rattle.std.specs.String.{string_bytes}
use Rattle.serde_json.specs.View.{items_view}
use Rattle.desk_cyclonedx.specs.Licences.{joined_onto}
use Rattle.desk_cyclonedx.proofs.licences.joined.Given as goal

-- the terms so far, and those that are left, are all
abbrev pub invariant-loop-value : goal.invariant-loop-value
invariant-loop-value l =
    joined_onto l.concluded (string_bytes l.text) (items_view (drop l.value-index l.list))
    ≡ joined_onto l.concluded [] (items_view l.list)
