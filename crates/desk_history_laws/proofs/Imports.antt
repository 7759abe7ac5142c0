-- The documents, their profiles, packages and references.
use Rattle.std.proofs.Common.{◌≡◌, ℕ, ◌+◌, true, List, [], ◌∷◌, ◌++◌, length, map, refl, ap, ◌∙◌, sym}
use Rattle.std.specs.Prelude.{pos, IsTrue, false, Result, Ok, Err, Option, Some, None}
use Rattle.std.specs.List.{list_all, flat_map}
use Rattle.std.specs.Option.{option_map_or}
use Rattle.std.specs.Result.{result_ok}
use Rattle.std.specs.Str.{bytes_eq}
use Rattle.std.proofs.lemmas.List.{map-append}
use Rattle.std.proofs.lemmas.List.Folds.{list_all-append}
use Rattle.std.proofs.lemmas.Simd.{map-map}
use Rattle.desk_base.specs.declared.profile.Profile.{Profile}
use Rattle.desk_base.specs.declared.profile.Profile.TheVariants.{Capitals, Either}
use Rattle.desk_base.proofs.Texts.{same_text}
use Rattle.desk_model.specs.Readings.{Readings}
use Rattle.desk_model.specs.History.{documents, packages, references, namespace_in, packages_in}
use Rattle.desk_model.specs.History.{references_in, package_row, extracted_row}
use Rattle.desk_model.specs.Answers.{IsHistory, is_recorded, Importing, import_answer, importing}
use Rattle.desk_model.specs.Tables.{tables}
use Rattle.desk_model.specs.declared.reading.Document.{Document}
use Rattle.desk_model.specs.declared.refusal.DocumentFault.{DocumentFault}
use Rattle.desk_model.specs.declared.row.DocumentRow.{DocumentRow}
use Rattle.desk_model.specs.declared.command.Command.{Command}
use Rattle.desk_model.specs.declared.command.Command.TheVariants.{Import}
use Rattle.desk_snapshot.specs.Conditions.{AreDocuments, ArePackages, is_read, is_profile}
use Rattle.desk_snapshot.specs.Conditions.{packages_by, stored_package, extracted_by}
use Rattle.desk_snapshot.specs.Conditions.{stored_extracted}
use Rattle.desk_snapshot.specs.Rows.{AreFrom}
use Rattle.desk_snapshot.specs.Tables.{snapshot_of, document_stored, reading_stored, package_stored, extracted_stored}
use Rattle.desk_snapshot.specs.declared.rows.StoredDocument.{StoredDocument}
use Rattle.desk_snapshot.specs.declared.rows.StoredReading.{StoredReading}
use Rattle.desk_history_laws.proofs.Numbered.{flat_map-push, rows_push}

abbrev row_of : Readings → List Command → List ℕ → Profile → DocumentRow
row_of w h bytes profile = record {
  number = length (documents w h) + 1;
  namespace = namespace_in (result_ok (w.document bytes));
  bytes = bytes;
  profile = profile;
}

numbered_rows : (w : Readings) (h : List Command)
    → AreFrom 1 (map (λ (row : DocumentRow). pos row.number) (documents w h))
numbered_rows w [] = tt
numbered_rows w (Import bytes profile ∷ h) = rows_push (λ (row : DocumentRow). pos row.number)
    (documents w h) (row_of w h bytes profile) (numbered_rows w h) refl
numbered_rows w (_ ∷ h) = numbered_rows w h

numbered : (w : Readings) (h : List Command)
    → AreFrom 1 (map (λ (row : StoredDocument). row.number) (map document_stored (documents w h)))
numbered w h = rw (map-map (λ (row : StoredDocument). row.number) document_stored (documents w h))
    (numbered_rows w h)

-- bytes that were imported are a document
was_read : (r : Result Document DocumentFault) (bytes : List ℕ) (found : Importing)
    → IsTrue (is_recorded (import_answer r bytes found))
    → option_map_or (λ (read : Document). bytes_eq read.namespace (namespace_in (result_ok r)))
    (result_ok r) false ≡ true
was_read (Ok d) bytes found e = same_text d.namespace
was_read (Err f) bytes found e = cc

read : (w : Readings) (h : List Command) → IsHistory w h
    → list_all (is_read w) (map document_stored (documents w h)) ≡ true
read w [] ok = refl
read w (Import bytes profile ∷ h) ok =
    let row = row_of w h bytes profile in
    ap (list_all (is_read w)) (map-append document_stored (documents w h) (row ∷ []))
    ∙ (list_all-append (is_read w) (map document_stored (documents w h)) (document_stored row ∷ [])
    ∙ rw (read w h ok.1, was_read (w.document bytes) bytes (importing w h) ok.0) refl)
read w (_ ∷ h) ok = read w h ok.1

profiled : (rows : List DocumentRow)
    → map (λ (row : StoredReading). row.document) (map reading_stored rows)
    ≡ map (λ (row : StoredDocument). row.number) (map document_stored rows)
profiled [] = refl
profiled (row ∷ rows) = ap (λ ns. pos row.number ∷ ns) (profiled rows)

of_profile : (number : ℕ) (namespace bytes : List ℕ) (p : Profile)
    → is_profile (reading_stored (record {
      number = number;
      namespace = namespace;
      bytes = bytes;
      profile = p;
    })) ≡ true
of_profile number namespace bytes Capitals = refl
of_profile number namespace bytes Either = refl

profiles : (rows : List DocumentRow) → list_all is_profile (map reading_stored rows) ≡ true
profiles [] = refl
profiles (row ∷ rows) = rw (
  of_profile row.number row.namespace row.bytes row.profile,
  profiles rows,
) refl

pub are_documents : (w : Readings) (h : List Command) → IsHistory w h
    → AreDocuments w (snapshot_of (tables w h))
are_documents w h ok = record {
  numbered = numbered w h;
  read = read w h ok;
  profiled = profiled (documents w h);
  profiles = profiles (documents w h);
}

-- Packages and references

packages_stored : (n : ℕ) (r : Option Document)
    → map package_stored (map (package_row n) (packages_in r))
    ≡ option_map_or (λ (read : Document). map (stored_package (pos n)) read.packages) r []
packages_stored n None = refl
packages_stored n (Some d) = map-map package_stored (package_row n) d.packages

references_stored : (n : ℕ) (r : Option Document)
    → map extracted_stored (map (extracted_row n) (references_in r))
    ≡ option_map_or (λ (read : Document). map (stored_extracted (pos n)) read.references) r []
references_stored n None = refl
references_stored n (Some d) = map-map extracted_stored (extracted_row n) d.references

-- the parts of one more document
one_document : {Row Part Doc Stored : Type 0} (f : Row → Stored) (by : Part → List Stored)
    (of : Doc → Part) (old new : List Row)
    (rows : List Doc) (row : Doc) → map f old ≡ flat_map by (map of rows) → map f new ≡ by (of row)
    → map f (old ++ new) ≡ flat_map by (map of (rows ++ row ∷ []))
one_document f by of old new rows row so_far here =
    map-append f old new
    ∙ (ap (λ l. l ++ map f new) so_far
    ∙ (ap (λ l. flat_map by (map of rows) ++ l) here
    ∙ (sym (flat_map-push by (map of rows) (of row))
    ∙ ap (flat_map by) (sym (map-append of rows (row ∷ []))))))

packages_all : (w : Readings) (h : List Command)
    → map package_stored (packages w h)
    ≡ flat_map (packages_by w) (map document_stored (documents w h))
packages_all w [] = refl
packages_all w (Import bytes profile ∷ h) =
    let n = length (documents w h) + 1 in
    let read = result_ok (w.document bytes) in
    one_document package_stored (packages_by w) document_stored (packages w h)
    (map (package_row n) (packages_in read))
    (documents w h) (row_of w h bytes profile) (packages_all w h) (packages_stored n read)
packages_all w (_ ∷ h) = packages_all w h

references_all : (w : Readings) (h : List Command)
    → map extracted_stored (references w h)
    ≡ flat_map (extracted_by w) (map document_stored (documents w h))
references_all w [] = refl
references_all w (Import bytes profile ∷ h) =
    let n = length (documents w h) + 1 in
    let read = result_ok (w.document bytes) in
    one_document extracted_stored (extracted_by w) document_stored (references w h)
    (map (extracted_row n) (references_in read)) (documents w h) (row_of w h bytes profile)
    (references_all w h)
    (references_stored n read)
references_all w (_ ∷ h) = references_all w h

pub are_packages : (w : Readings) (h : List Command) → ArePackages w (snapshot_of (tables w h))
are_packages w h = record { all = packages_all w h; extracted = references_all w h }
