use Rattle.std.proofs.Common.{◌≡◌, drop}
use Rattle.std.specs.List.{list_all}
use Rattle.desk_model.specs.Readings.{Readings}
use Rattle.desk_snapshot.specs.Conditions.{is_printed}
use Rattle.desk_audit_texts.proofs.held.are_printed.Given as goal

abbrev pub invariant-loop-i : goal.invariant-loop-i
invariant-loop-i g l =
    (w : Readings) → g.T.Texts.are_right w
    → list_all (is_printed w) (drop l.i l.terms) ≡ list_all (is_printed w) l.terms
