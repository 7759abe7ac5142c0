use Rattle.std.proofs.Common.{◌≡◌, true, take}
use Rattle.std.specs.Prelude.{is_some}
use Rattle.std.specs.List.{flat_map, list_all}
use Rattle.std.specs.Option.{option_copied}
use Rattle.std.specs.Result.{result_ok}
use Rattle.desk_model.specs.Readings.{Readings}
use Rattle.desk_snapshot.specs.Conditions.{rules_by}
use Rattle.desk_audit_texts.specs.Left.{IsLeft}
use Rattle.desk_audit_texts.proofs.catalogue.catalogue_fault.Given as goal

-- so far each body was read, and what is left comes after the rules of these
abbrev pub invariant-loop-row : goal.invariant-loop-row
invariant-loop-row g l = (w : Readings) → g.T.Texts.are_right w → record {
  read : list_all (λ row. is_some (result_ok (w.catalogue row.body))) (take l.row-index l.catalogue)
      ≡ true;
  left : IsLeft l.snapshot.rule (flat_map (rules_by w) (take l.row-index l.catalogue))
      (option_copied l.left);
}
