-- What the desk keeps of a document (SPDX 2.3, clauses 6.5, 7 and 10).
use Rattle.std.specs.Prelude.{◌≡◌, ℕ, Bool, false, List, [], ◌∷◌, drop, map, slice_index_or, Result}
use Rattle.std.specs.Prelude.{Ok, Err, if◌then◌else◌}
use Rattle.std.specs.Str.{bytes_eq}
use Rattle.desk_bom.specs.Shipping.{AreShippingMarks}
use Rattle.desk_fields.specs.declared.fault.DocFault.{DocFault}
use Rattle.desk_fields.specs.declared.fault.DocFault.TheVariants as doc
use Rattle.desk_fields.specs.Tags.{tag_name}
use Rattle.desk_model.specs.Texts.{text_below}
use Rattle.desk_model.specs.declared.reading.Document.{Document}
use Rattle.desk_model.specs.declared.reading.Package.{Package}
use Rattle.desk_model.specs.declared.reading.Reference.{Reference}
use Rattle.desk_model.specs.declared.refusal.DocumentFault.{DocumentFault}
use Rattle.desk_model.specs.declared.refusal.DocumentFault.TheVariants as fault
use Rattle.desk_tagvalue.specs.Parts.{DocumentText, PackageText, ExtractedText}

-- x put among others in the order of their ids, if none of them has its id
abbrev pub put_by : {A : Type 0} → (A → List ℕ) → A → List A → List A
put_by id x [] = x ∷ []
put_by id x (y ∷ ys) = if text_below (id x) (id y) then x ∷ y ∷ ys
    else (if bytes_eq (id x) (id y) then y ∷ ys else y ∷ put_by id x ys)

-- all of some in the order of their ids, each id once; the packages of a document have different
-- ids, and so do its extracted licences
abbrev pub sorted_by : {A : Type 0} → (A → List ℕ) → List A → List A
sorted_by id [] = []
sorted_by id (x ∷ xs) = put_by id x (sorted_by id xs)

-- each package of a list with its mark, which says whether it ships
abbrev pub marked : List PackageText → List Bool → List (PackageText × Bool)
marked [] marks = []
marked (p ∷ ps) marks = (p, slice_index_or marks 0 false) ∷ marked ps (drop 1 marks)

-- a package with its mark
abbrev pub package_of : PackageText × Bool → Package
package_of m = record {
  id = m.0.id;
  name = m.0.name;
  version = m.0.version;
  concluded = m.0.concluded;
  copyright = m.0.copyright;
  shipped = m.1;
}

-- an extracted licence, by its LicenseID
abbrev pub reference_of : ExtractedText → Reference
reference_of x = record { id = x.id; body = x.text }

-- the namespace, and the packages and references in the order of their ids
abbrev pub document_of : List Bool → DocumentText → Document
document_of marks d = record {
  namespace = d.namespace;
  packages = map package_of (sorted_by (λ m. m.0.id) (marked d.packages marks));
  references = map reference_of (sorted_by (λ x. x.id) d.extracted);
}

-- a document's fault; `Memory` is none, so its value here doesn't matter
abbrev pub fault_of : DocFault → DocumentFault
fault_of doc.Memory = fault.NotUtf8
fault_of doc.NotUtf8 = fault.NotUtf8
fault_of (doc.NoColon line) = fault.NoColon line
fault_of (doc.OpenText line) = fault.OpenText line
fault_of (doc.AfterText line) = fault.AfterText line
fault_of (doc.BadVersion line) = fault.BadVersion line
fault_of (doc.Missing line tag) = fault.Missing line (tag_name tag)
fault_of (doc.BadId line) = fault.BadId line
fault_of (doc.DuplicateId line) = fault.DuplicateId line
fault_of (doc.Repeated line tag) = fault.Repeated line (tag_name tag)
fault_of (doc.BadRelationship line) = fault.BadRelationship line
fault_of doc.TooLarge = fault.TooLarge
fault_of (doc.TooManyElements line) = fault.TooManyElements line

-- what the desk keeps of bytes that are read as this: the document, with the packages that ship by
-- the least set of elements (`desk_bom`), or the fault
abbrev pub Keeps : Result DocumentText DocFault → Result Document DocumentFault → Type 0
Keeps (Ok d) kept = (marks : List Bool) × AreShippingMarks d marks
    × (kept ≡ Ok (document_of marks d))
Keeps (Err f) kept = kept ≡ Err (fault_of f)
