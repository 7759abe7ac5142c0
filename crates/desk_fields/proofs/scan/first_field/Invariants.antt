use Rattle.std.proofs.Common.{◌+◌, ◌≤◌, ◌<◌, length, IfSome, IsUtf8}
use Rattle.desk_fields.specs.NextField.{Reaches}
use Rattle.desk_fields.proofs.scan.first_field.Given as goal

-- how far the pieces so far lead; only the last of them may give a field
abbrev pub invariant-loop-found : goal.invariant-loop-found
invariant-loop-found l = record {
  utf8 : IsUtf8 l.found.rest.now;
  room : l.found.line + length l.found.rest.now ≤ l.line + length l.text;
  part : length l.found.rest.now ≤ length l.text;
  less : IfSome l.found.field (λ _. length l.found.rest.now < length l.text);
  reaches : Reaches l.line l.text l.found.field l.found.line l.found.rest.now;
}

abbrev pub decreases-loop-found : goal.decreases-loop-found
decreases-loop-found l = length l.found.rest.now
