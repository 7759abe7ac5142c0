-- What is left of the tables after all that was read decides the second condition of each pair.
use Rattle.std.proofs.Common.{◌≡◌, ◌≢◌, List, [], ◌∷◌, map, Some, refl, sym, ap, ◌∙◌, subst, inl, inr}
use Rattle.std.specs.Prelude.{Option, is_some, true}
use Rattle.std.specs.List.{flat_map, list_all}
use Rattle.std.specs.Result.{result_ok}
use Rattle.desk_model.specs.Readings.{Readings}
use Rattle.desk_snapshot.specs.Conditions.{AreDocuments, ArePackages, extracted_by, is_read, packages_by, rules_by}
use Rattle.desk_snapshot.specs.Reports.{IsFirst}
use Rattle.desk_snapshot.specs.Rows.{AreFrom}
use Rattle.desk_snapshot.specs.declared.fault.AuditFault.TheVariants.{BadDocument, BadPackage, BadRevision, BadRule}
use Rattle.desk_snapshot.specs.declared.rows.StoredCatalogue.{StoredCatalogue}
use Rattle.desk_snapshot.specs.declared.rows.StoredDocument.{StoredDocument}
use Rattle.desk_snapshot.specs.declared.rows.StoredExtracted.{StoredExtracted}
use Rattle.desk_snapshot.specs.declared.rows.StoredPackage.{StoredPackage}
use Rattle.desk_snapshot.specs.declared.rows.StoredRule.{StoredRule}
use Rattle.desk_snapshot.specs.declared.snapshot.Snapshot.{Snapshot}
use Rattle.desk_audit_texts.specs.Left.{IsLeft}
use Rattle.desk_audit_texts.specs.Listed.{AreListed}
use Rattle.desk_audit_texts.proofs.Behind.{not_used_up}

pub rules_left : (w : Readings) (s : Snapshot) (rows : List StoredCatalogue)
    (left : Option (List StoredRule))
    → rows ≡ s.catalogue
    → AreFrom 1 (map (λ row. row.revision) rows)
    → list_all (λ row. is_some (result_ok (w.catalogue row.body))) rows ≡ true
    → IsLeft s.rule (flat_map (rules_by w) rows) left → left ≢ Some []
    → IsFirst w s (BadRevision ∷ BadRule ∷ []) (Some BadRule)
rules_left w s rows left e numbered read rest more =
    let P : List StoredCatalogue → Type 0 = λ rows. AreFrom 1 (map (λ row. row.revision) rows) in
    inr (
      record { numbered = subst P e numbered; read = rw e at read },
      inl (
        refl,
        λ all. not_used_up s.rule (flat_map (rules_by w) rows) left rest more
            (all ∙ ap (flat_map (rules_by w)) (sym e)),
      ),
    )

documents_read : (w : Readings) (s : Snapshot) (rows : List StoredDocument) → rows ≡ s.document
    → AreListed s → list_all (is_read w) rows ≡ true → AreDocuments w s
documents_read w s rows e listed read =
    record {
      numbered = listed.numbered;
      read = rw e at read;
      profiled = listed.profiled;
      profiles = listed.profiles;
    }

-- what is left of a table of documents' parts
part_left : {X : Type 0} (w : Readings) (s : Snapshot) (rows : List StoredDocument) (kept : List X)
    (by : StoredDocument → List X) (left : Option (List X))
    → (ArePackages w s → kept ≡ flat_map by s.document)
    → rows ≡ s.document
    → AreListed s → list_all (is_read w) rows ≡ true
    → IsLeft kept (flat_map by rows) left → left ≢ Some []
    → IsFirst w s (BadDocument ∷ BadPackage ∷ []) (Some BadPackage)
part_left w s rows kept by left are e listed read rest more =
    inr (
      documents_read w s rows e listed read,
      inl (
        refl,
        λ all. not_used_up kept (flat_map by rows) left rest more
            (are all ∙ ap (flat_map by) (sym e)),
      ),
    )

pub packages_left : (w : Readings) (s : Snapshot) (rows : List StoredDocument)
    (left : Option (List StoredPackage))
    → rows ≡ s.document
    → AreListed s → list_all (is_read w) rows ≡ true
    → IsLeft s.packages (flat_map (packages_by w) rows) left → left ≢ Some []
    → IsFirst w s (BadDocument ∷ BadPackage ∷ []) (Some BadPackage)
packages_left w s rows left = part_left w s rows s.packages (packages_by w) left (λ all. all.all)

pub extracted_left : (w : Readings) (s : Snapshot) (rows : List StoredDocument)
    (left : Option (List StoredExtracted))
    → rows ≡ s.document
    → AreListed s → list_all (is_read w) rows ≡ true
    → IsLeft s.extracted (flat_map (extracted_by w) rows) left → left ≢ Some []
    → IsFirst w s (BadDocument ∷ BadPackage ∷ []) (Some BadPackage)
extracted_left w s rows left = part_left w s rows s.extracted (extracted_by w) left
    (λ all. all.extracted)
