use Rattle.std.proofs.Common.{◌≡◌, true, take}
use Rattle.std.specs.List.{flat_map, list_all}
use Rattle.std.specs.Option.{option_copied}
use Rattle.desk_model.specs.Readings.{Readings}
use Rattle.desk_snapshot.specs.Conditions.{extracted_by, is_read, packages_by}
use Rattle.desk_audit_texts.specs.Left.{IsLeft}
use Rattle.desk_audit_texts.proofs.documents.document_fault.Given as goal

-- so far each document was read, and what is left comes after the packages and the extracted
-- licences of these
abbrev pub invariant-loop-row : goal.invariant-loop-row
invariant-loop-row g l = (w : Readings) → g.T.Texts.are_right w → record {
  read : list_all (is_read w) (take l.row-index l.documents) ≡ true;
  packages : IsLeft l.snapshot.packages (flat_map (packages_by w) (take l.row-index l.documents))
      (option_copied l.packages);
  extracted : IsLeft l.snapshot.extracted (flat_map (extracted_by w) (take l.row-index l.documents))
      (option_copied l.extracted);
}
