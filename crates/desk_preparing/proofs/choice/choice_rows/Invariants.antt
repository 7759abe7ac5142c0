use Rattle.std.proofs.Common.{◌≡◌, map}
use Rattle.desk_model.specs.Tables.{choice_row}
use Rattle.desk_preparing.proofs.choice.choice_rows.Given as goal

abbrev pub invariant-loop-term : goal.invariant-loop-term
invariant-loop-term l = l.rows ≡ map (choice_row l.release l.document l.package_id) l.yielded
