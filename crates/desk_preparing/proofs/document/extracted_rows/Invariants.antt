use Rattle.std.proofs.Common.{◌≡◌, map}
use Rattle.desk_model.specs.History.{extracted_row}
use Rattle.desk_preparing.proofs.document.extracted_rows.Given as goal

abbrev pub invariant-loop-reference : goal.invariant-loop-reference
invariant-loop-reference l = l.rows.items ≡ map (extracted_row l.document) l.yielded
