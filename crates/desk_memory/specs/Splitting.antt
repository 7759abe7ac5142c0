-- The keys that rows are looked up by split rows that ascend.
use Rattle.std.proofs.Common.{◌≡◌, ℕ, true, List, refl}
use Rattle.std.specs.Prelude.{◌&&◌, ◌==◌}
use Rattle.std.specs.Ordering.{nat_cmp, is_lt, is_eq, ordering_then, on, then_cmp}
use Rattle.std.specs.Cmp.Lexicographic.{slice_cmp}
use Rattle.std.specs.Str.{bytes_eq}
use Rattle.std.specs.declared.cmp.Ordering.{Ordering}
use Rattle.std.specs.declared.cmp.Ordering.TheVariants.{Less, Equal, Greater}
use Rattle.std.proofs.lemmas.Cmp.{on_total, then_total, nat_list_cmp_total, nat_cmp_total}
use Rattle.desk_model.specs.Keys.{attached_order, frozen_order, is_extracted, is_package, is_attachment, package_order, extracted_order}
use Rattle.desk_model.specs.declared.row.PackageRow.{PackageRow}
use Rattle.desk_model.specs.declared.row.AttachedRow.{AttachedRow}
use Rattle.desk_model.specs.declared.row.ExtractedRow.{ExtractedRow}
use Rattle.desk_model.specs.declared.row.FrozenRow.{FrozenRow}
use Rattle.desk_sorted.specs.Sorted.{IsSideOf}
use Rattle.desk_sorted.specs.Sides.{side_by, first_less, texts_meet, numbers_meet, then_meets, number_cmp, number_total}
use Rattle.desk_sorted.specs.Orders.{document_order, release_order}
use Rattle.desk_memory.specs.Sides.{document_side, packages_side, package_side, release_side}
use Rattle.desk_memory.specs.Sides.{attached_side, attachment_side, extracted_side, frozen_side}

-- What keys begin with

-- keys made of a text and a number, compared part by part
abbrev pair_cmp : List ℕ × ℕ → List ℕ × ℕ → Ordering
pair_cmp = then_cmp (on (λ p. p.0) (slice_cmp nat_cmp)) (on (λ p. p.1) nat_cmp)

-- in the order of documents the rows before the one with a number come first, then it, then those
-- behind it
pub document_splits : (number : ℕ) → IsSideOf document_order (document_side number)
document_splits number = side_by document_order (λ row. row.number) nat_cmp nat_cmp_total
    (λ x y e. e) number

-- the same for all packages of a document, since their order begins with the document
pub packages_splits : (document : ℕ) → IsSideOf package_order (packages_side document)
packages_splits document =
    side_by package_order (λ row. row.document) nat_cmp nat_cmp_total
    (λ x y e. first_less (nat_cmp y.document x.document) (slice_cmp nat_cmp y.id x.id) e) document

-- the same for one package of a document
pub package_splits : (document : ℕ) (id : List ℕ)
    → IsSideOf package_order (package_side document id)
package_splits document id =
    side_by package_order (λ row. (row.document, row.id)) number_cmp number_total (λ x y e. e)
    (document, id)

-- the same for the release with a name
pub release_splits : (name : List ℕ) → IsSideOf release_order (release_side name)
release_splits name = side_by release_order (λ row. row.name) (slice_cmp nat_cmp) nat_list_cmp_total
    (λ x y e. e) name

-- the same for all documents of a release, since their order begins with the release
pub attached_splits : (release : List ℕ) → IsSideOf attached_order (attached_side release)
attached_splits release =
    side_by attached_order (λ row. row.release) (slice_cmp nat_cmp) nat_list_cmp_total
    (λ x y e. first_less (slice_cmp nat_cmp y.release x.release) (nat_cmp y.document x.document) e)
    release

-- the same for one document of a release
pub attachment_splits : (release : List ℕ) (document : ℕ)
    → IsSideOf attached_order (attachment_side release document)
attachment_splits release document =
    side_by attached_order (λ row. (row.release, row.document)) pair_cmp
    (then_total (on_total (λ p. p.0) nat_list_cmp_total) (on_total (λ p. p.1) nat_cmp_total))
    (λ x y e. e) (release, document)

-- the same for all frozen terms of a release, since their order begins with it
pub frozen_splits : (release : List ℕ) → IsSideOf frozen_order (frozen_side release)
frozen_splits release =
    side_by frozen_order (λ row. row.release) (slice_cmp nat_cmp) nat_list_cmp_total
    (λ x y e. first_less (slice_cmp nat_cmp y.release x.release) _ e) release

-- the same for the text of a reference in a document
pub extracted_splits : (document : ℕ) (reference : List ℕ)
    → IsSideOf extracted_order (extracted_side document reference)
extracted_splits document reference =
    side_by extracted_order (λ row. (row.document, row.reference)) number_cmp number_total
    (λ x y e. e) (document, reference)

-- The rows with a key are those on neither side of it

-- a row is the package of a document with an id if and only if its side is Equal
pub package_meets : (document : ℕ) (id : List ℕ) (row : PackageRow)
    → is_package document id row ≡ is_eq (package_side document id row)
package_meets document id row =
    then_meets (nat_cmp row.document document) (slice_cmp nat_cmp row.id id)
    (row.document == document) (bytes_eq row.id id) (numbers_meet row.document document)
    (texts_meet row.id id)

-- the same for a document of a release
pub attachment_meets : (release : List ℕ) (document : ℕ) (row : AttachedRow)
    → is_attachment release document row ≡ is_eq (attachment_side release document row)
attachment_meets release document row =
    then_meets (slice_cmp nat_cmp row.release release) (nat_cmp row.document document)
    (bytes_eq row.release release) (row.document == document) (texts_meet row.release release)
    (numbers_meet row.document document)

-- the same for the text of a reference in a document
pub extracted_meets : (document : ℕ) (reference : List ℕ) (row : ExtractedRow)
    → is_extracted document reference row ≡ is_eq (extracted_side document reference row)
extracted_meets document reference row =
    then_meets (nat_cmp row.document document) (slice_cmp nat_cmp row.reference reference)
    (row.document == document) (bytes_eq row.reference reference)
    (numbers_meet row.document document) (texts_meet row.reference reference)
