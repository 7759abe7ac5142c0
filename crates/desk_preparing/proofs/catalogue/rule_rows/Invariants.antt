use Rattle.std.proofs.Common.{◌≡◌, map}
use Rattle.desk_model.specs.History.{rule_row}
use Rattle.desk_preparing.proofs.catalogue.rule_rows.Given as goal

abbrev pub invariant-loop-rule : goal.invariant-loop-rule
invariant-loop-rule l = l.rows ≡ map (rule_row l.revision) l.yielded
