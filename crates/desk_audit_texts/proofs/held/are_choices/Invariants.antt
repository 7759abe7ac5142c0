use Rattle.std.proofs.Common.{◌≡◌, true, drop}
use Rattle.std.specs.Prelude.{IfSome}
use Rattle.std.specs.List.{list_all}
use Rattle.desk_model.specs.Readings.{Readings}
use Rattle.desk_snapshot.specs.Conditions.{is_choice}
use Rattle.desk_audit_texts.proofs.held.are_choices.Given as goal

abbrev pub invariant-loop-row : goal.invariant-loop-row
invariant-loop-row g l = record {
  told : (w : Readings) → g.T.Texts.are_right w
      → IfSome l.told (λ before. is_choice w l.snapshot before.now ≡ true);
  left : (w : Readings) → g.T.Texts.are_right w
      → list_all (is_choice w l.snapshot) (drop l.row-index l.row-items)
      ≡ list_all (is_choice w l.snapshot) l.snapshot.choice;
}
