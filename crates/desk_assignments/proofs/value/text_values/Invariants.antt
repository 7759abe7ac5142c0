use Rattle.std.proofs.Common.{◌≡◌, map, take}
use Rattle.serde_json.specs.Data.{string}
use Rattle.serde_json.specs.View.{view}
use Rattle.desk_base.specs.Borrowed.{texts}
use Rattle.desk_assignments.proofs.value.text_values.Given as goal

abbrev pub invariant-loop-part : goal.invariant-loop-part
invariant-loop-part l = map view l.values.items ≡ map string (texts (take l.part-index l.parts))
