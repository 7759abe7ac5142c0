use Rattle.std.proofs.Common.{◌≡◌, drop}
use Rattle.std.specs.List.{list_all}
use Rattle.desk_model.specs.Readings.{Readings}
use Rattle.desk_snapshot.specs.Conditions.{is_adoption}
use Rattle.desk_audit_texts.proofs.adoptions.are_adoptions.Given as goal

abbrev pub invariant-loop-row : goal.invariant-loop-row
invariant-loop-row g l =
    (w : Readings) → g.T.Texts.are_right w
    → list_all (is_adoption w) (drop l.row-index l.rows) ≡ list_all (is_adoption w) l.rows
