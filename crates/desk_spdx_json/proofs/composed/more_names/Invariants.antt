use Rattle.std.proofs.Common.{◌≡◌, ◌++◌, drop}
use Rattle.std.specs.String.{string_bytes}
use Rattle.serde_json.specs.View.{items_view}
use Rattle.desk_spdx_json.specs.Values.{more_names}
use Rattle.desk_spdx_json.proofs.composed.more_names.Given as goal

-- the names so far and those that are still to come are all names
abbrev pub invariant-loop-value : goal.invariant-loop-value
invariant-loop-value l = string_bytes l.text ++ more_names (items_view (drop l.value-index l.list))
    ≡ more_names (items_view l.list)
