use Rattle.std.proofs.Common.{◌≡◌, ◌++◌, true, map, drop}
use Rattle.desk_tally.specs.Stands.{are_duties, shift_of}
use Rattle.desk_tally.proofs.changes.shifts_of.Given as goal

abbrev pub invariant-loop-change : goal.invariant-loop-change
invariant-loop-change l = record {
  shifts : l.shifts.items ++ map shift_of (drop l.change-index l.changes) ≡ map shift_of l.changes;
  within : are_duties l.count l.shifts.items ≡ true;
}
