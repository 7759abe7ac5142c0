-- Tables with the rows of a sound snapshot are orderly.
use Rattle.std.proofs.Common.{◌≡◌, ℕ, ◌+◌, ◌<◌, ℤ, pos, true, List, [], ◌∷◌}
use Rattle.std.proofs.Common.{map, length, Result, Ok, Err, refl, sym, ap, subst, ◌∙◌, arith}
use Rattle.std.specs.Prelude.{◌==◌, not, nat_le, nat_lt, int_le, flat_map}
use Rattle.std.specs.List.{list_all}
use Rattle.std.specs.Result.{result_ok}
use Rattle.std.proofs.lemmas.Bool.{and_from}
use Rattle.std.proofs.lemmas.Bool.Decides.{nat_tests}
use Rattle.std.proofs.lemmas.List.{length-map}
use Rattle.sqlite.specs.Effect.{Database}
use Rattle.desk_base.specs.Idstring.{is_idstring, is_idstring_byte}
use Rattle.desk_base.proofs.Bools.{and_left, and_right}
use Rattle.desk_history.proofs.Members.{from_flat_map, from_map, in_map}
use Rattle.desk_model.specs.History.{rule_row, rules_in}
use Rattle.desk_model.specs.Lists.{IsIn}
use Rattle.desk_model.specs.Readings.{Readings}
use Rattle.desk_model.specs.Tables.{Tables}
use Rattle.desk_model.specs.declared.reading.Catalogue.{Catalogue}
use Rattle.desk_model.specs.declared.reading.Document.{Document}
use Rattle.desk_model.specs.declared.reading.Rule.{Rule}
use Rattle.desk_model.specs.declared.refusal.CatalogueFault.{CatalogueFault}
use Rattle.desk_model.specs.declared.row.CatalogueRow.{CatalogueRow}
use Rattle.desk_model.specs.declared.row.ChangeRow.{ChangeRow}
use Rattle.desk_model.specs.declared.row.DocumentRow.{DocumentRow}
use Rattle.desk_model.specs.declared.row.PackageRow.{PackageRow}
use Rattle.desk_model.specs.declared.row.RuleRow.{RuleRow}
use Rattle.desk_model.proofs.Lists.{all_pass, each_passes}
use Rattle.desk_snapshot.specs.Changes.{is_within}
use Rattle.desk_snapshot.specs.Conditions.{packages_by, stored_package}
use Rattle.desk_snapshot.specs.Reports.{IsReport}
use Rattle.desk_snapshot.specs.Rows.{AreFrom}
use Rattle.desk_snapshot.specs.Tables as s
use Rattle.desk_snapshot.specs.Tables.{snapshot_of}
use Rattle.desk_snapshot.specs.declared.fault.AuditFault.TheVariants as fault
use Rattle.desk_snapshot.specs.declared.fault.AuditReport.TheVariants.{Sound}
use Rattle.desk_snapshot.specs.declared.rows.StoredChange.{StoredChange}
use Rattle.desk_snapshot.specs.declared.rows.StoredPackage.{StoredPackage}
use Rattle.desk_sql_layout.specs.Cells.{is_word}
use Rattle.desk_sql_layout.specs.Held.{AreNumbered, AreOrderly}
use Rattle.desk_sql_layout.proofs.Orderly.{at_most}
use Rattle.desk_sql_scan.specs.Scans.{IsSnapshot}
use Rattle.desk_beside.specs.Shown.{rules_read}
use Rattle.desk_history_laws.specs.Ids.{ListsIds}
use Rattle.desk_store.proofs.Ascending.{are_sorted, packages_ascend}
use Rattle.desk_beside.proofs.Taken.{from_read}

-- ---- numbers

numbered_as : {X Y : Type 0} (f : X → Y) (stored : Y → ℤ) (number : X → ℕ)
    → ((x : X) → stored (f x) ≡ pos (number x)) → (n : ℕ) (xs : List X)
    → AreFrom n (map stored (map f xs)) → AreNumbered n (map number xs)
numbered_as f stored number same n [] are = tt
numbered_as f stored number same n (x ∷ xs) are = (
  is (number x) n (sym (same x) ∙ are.0),
  numbered_as f stored number same (n + 1) xs are.1,
)
  where
    is : (m n : ℕ) → pos m ≡ pos n → m ≡ n
    is m n e = cc

up_to : (m n : ℕ) → m < 1 + n → nat_le m n ≡ true
up_to m n low = grind (arith, nat_tests)

-- ---- codes

-- the codes of rules that a reading gives are words
pub words_read : (w : Readings) → ListsIds w → (rows : List CatalogueRow)
    → list_all (λ (row : RuleRow). list_all is_word row.codes) (flat_map (rules_read w) rows)
    ≡ true
words_read w lists rows =
    all_pass (λ (row : RuleRow). list_all is_word row.codes) (flat_map (rules_read w) rows)
    (λ row there.
    let of = from_flat_map (rules_read w) row rows there in
    let body = of.0.body in
    let own = from_map (rule_row of.0.revision) row (rules_in (result_ok (w.catalogue body)))
    of.2 in
    subst (λ (row : RuleRow). list_all is_word row.codes ≡ true) own.2
    (words own.0.codes (ids body own.0 (w.catalogue body) refl own.1)))
  where
    byte : (b : ℕ) → is_idstring_byte b ≡ true → not (b == 32) ≡ true
    byte b id = grind (arith, nat_tests)

    word : (text : List ℕ) → is_idstring text ≡ true → is_word text ≡ true
    word text id =
        and_from (nat_lt 0 (length text)) (list_all (λ b. not (b == 32)) text)
        (and_left (nat_lt 0 (length text)) (list_all is_idstring_byte text) id)
        (all_pass (λ b. not (b == 32)) text (λ b there. byte b
        (each_passes is_idstring_byte b text
        (and_right (nat_lt 0 (length text)) (list_all is_idstring_byte text) id) there)))

    words : (codes : List (List ℕ)) → list_all is_idstring codes ≡ true
        → list_all is_word codes ≡ true
    words codes all = all_pass is_word codes
        (λ code there. word code (each_passes is_idstring code codes all there))

    ids : (text : List ℕ) (rule : Rule) (read : Result Catalogue CatalogueFault)
        → w.catalogue text ≡ read → IsIn rule (rules_in (result_ok read))
        → list_all is_idstring rule.codes ≡ true
    ids text rule (Ok catalogue) is there = lists text catalogue rule is there
    ids text rule (Err e) is there = absurd there

-- ---- tables

module _ (w : Readings) (t : Tables) (sound : IsReport w (snapshot_of t) Sound) where
  revisions : AreNumbered 1 (map (λ row. row.revision) t.catalogue)
  revisions = numbered_as s.catalogue_stored (λ row. row.revision) (λ row. row.revision)
      (λ row. refl) 1 t.catalogue (sound fault.BadRevision).numbered

  documents : AreNumbered 1 (map (λ row. row.number) t.document)
  documents = numbered_as s.document_stored (λ row. row.number) (λ row. row.number) (λ row. refl) 1
      t.document (sound fault.BadDocument).numbered

  duties : AreNumbered 1 (map (λ row. row.number) t.duty)
  duties = numbered_as s.duty_stored (λ row. row.number) (λ row. row.number) (λ row. refl) 1 t.duty
      (sound fault.BadNumber).numbered

  -- a package is of a document of the table
  of_document : (p : PackageRow) → IsIn p t.packages
      → nat_le p.document (length t.document) ≡ true
  of_document p there =
      let all = (sound fault.BadPackage).all in
      let stored = subst (λ rows. IsIn (s.package_stored p) rows) all
      (in_map s.package_stored p t.packages there) in
      let of = from_flat_map (packages_by w) (s.package_stored p) (map s.document_stored t.document)
      stored in
      let read = from_read (λ (d : Document). map (stored_package of.0.number) d.packages) _
      (s.package_stored p) of.2 in
      let own = from_map (stored_package of.0.number) (s.package_stored p) read.0.packages read.1 in
      let d = from_map s.document_stored of.0 t.document of.1 in
      let number : pos d.0.number ≡ pos p.document =
      ap (λ row. row.number) d.2 ∙ ap (λ (row : StoredPackage). row.document) own.2 in
      let low = at_most 1 d.0.number (map (λ (row : DocumentRow). row.number) t.document)
      documents (in_map (λ (row : DocumentRow). row.number) d.0 t.document d.1) in
      let long = length-map t.document (λ (row : DocumentRow). row.number) in
      up_to p.document (length t.document) (bound d.0.number p.document number low long)
    where
      bound : {m : ℕ} (k l : ℕ) → pos k ≡ pos l → {n : ℕ} → k < 1 + n → n ≡ m → l < 1 + m
      bound k l same low long = let e : k ≡ l = cc in omega (arith, e, low, long)

  -- a change is of a duty of the table
  of_duty : (c : ChangeRow) → IsIn c t.changes → nat_le c.duty (length t.duty) ≡ true
  of_duty c there =
      let n = length (map s.duty_stored t.duty) in
      let within = each_passes (λ (row : StoredChange). is_within n row.duty) (s.change_stored c)
      (map s.change_stored t.changes) (sound fault.BadChange).of_duties
      (in_map s.change_stored c t.changes there) in
      let low : nat_le c.duty n ≡ true = and_right (int_le (pos 1) (pos c.duty))
      (int_le (pos c.duty) (pos n)) within in
      ap (nat_le c.duty) (sym (length-map t.duty s.duty_stored)) ∙ low

  pub are_orderly : (db : Database) → IsSnapshot (snapshot_of t) db → ListsIds w
      → t.rule ≡ flat_map (rules_read w) t.catalogue → AreOrderly t
  are_orderly db it ids rules = record {
    sorted = are_sorted t db it;
    packages = packages_ascend t db it;
    revisions = revisions;
    documents = documents;
    duties = duties;
    of_documents = all_pass (λ (row : PackageRow). nat_le row.document (length t.document))
        t.packages of_document;
    of_duties = all_pass (λ (row : ChangeRow). nat_le row.duty (length t.duty)) t.changes of_duty;
    codes = ap (list_all (λ (row : RuleRow). list_all is_word row.codes)) rules
        ∙ words_read w ids t.catalogue;
  }
