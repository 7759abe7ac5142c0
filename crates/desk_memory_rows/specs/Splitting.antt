-- The keys that rows are looked up by split rows that ascend.
use Rattle.std.proofs.Common.{◌≡◌, ℕ, List}
use Rattle.std.specs.Prelude.{◌==◌}
use Rattle.std.specs.Ordering.{nat_cmp, is_eq}
use Rattle.std.specs.Cmp.Lexicographic.{slice_cmp}
use Rattle.std.specs.Str.{bytes_eq}
use Rattle.std.proofs.lemmas.Cmp.{nat_list_cmp_total, nat_cmp_total}
use Rattle.desk_model.specs.Keys.{adoption_order, choice_order, conclusion_order, is_adoption}
use Rattle.desk_model.specs.Keys.{is_conclusion, is_choice_of}
use Rattle.desk_model.specs.declared.row.AdoptionRow.{AdoptionRow}
use Rattle.desk_model.specs.declared.row.ConclusionRow.{ConclusionRow}
use Rattle.desk_model.specs.declared.row.ChoiceRow.{ChoiceRow}
use Rattle.desk_sorted.specs.Sorted.{IsSideOf}
use Rattle.desk_sorted.specs.Sides.{side_by, first_less, texts_meet, numbers_meet, then_meets}
use Rattle.desk_sorted.specs.Sides.{number_cmp, number_total, three_cmp, three_less, three_meet}
use Rattle.desk_sorted.specs.Sides.{three_total}
use Rattle.desk_memory_rows.specs.Sides.{conclusion_side, adoption_side, adoptions_side, choice_side, holder_side}

-- What keys begin with

-- in the order of conclusions the rows before that of a package come first, then it, then those
-- behind it
pub conclusion_splits : (document : ℕ) (id : List ℕ)
    → IsSideOf conclusion_order (conclusion_side document id)
conclusion_splits document id = side_by conclusion_order (λ row. (row.document, row.package_id))
    number_cmp number_total (λ x y e. e) (document, id)

-- the same for the adoption of a reference
pub adoption_splits : (document : ℕ) (reference : List ℕ)
    → IsSideOf adoption_order (adoption_side document reference)
adoption_splits document reference = side_by adoption_order (λ row. (row.document, row.reference))
    number_cmp number_total (λ x y e. e) (document, reference)

-- the same for all adoptions of a document, since their order begins with the document
pub adoptions_splits : (document : ℕ) → IsSideOf adoption_order (adoptions_side document)
adoptions_splits document =
    side_by adoption_order (λ row. row.document) nat_cmp nat_cmp_total
    (λ x y e. first_less (nat_cmp y.document x.document) (slice_cmp nat_cmp y.reference x.reference)
    e) document

-- the same for all that is chosen in a release, since the order of choices begins with it
pub holder_splits : (release : List ℕ) → IsSideOf choice_order (holder_side release)
holder_splits release = side_by choice_order (λ row. row.release) (slice_cmp nat_cmp)
    nat_list_cmp_total (λ x y e. first_less (slice_cmp nat_cmp y.release x.release) _ e) release

-- the same for the terms chosen for a package in a release: all of a choice's key but its term
pub choice_splits : (release : List ℕ) (document : ℕ) (id : List ℕ)
    → IsSideOf choice_order (choice_side release document id)
choice_splits release document id =
    side_by choice_order (λ row. (row.release, row.document, row.package_id)) three_cmp three_total
    (λ x y e. three_less (slice_cmp nat_cmp y.release x.release) (nat_cmp y.document x.document)
    (slice_cmp nat_cmp y.package_id x.package_id) (slice_cmp nat_cmp y.term x.term) e)
    (release, document, id)

-- The rows with a key are those on neither side of it

-- a row is the conclusion of a package if and only if its side is Equal
pub conclusion_meets : (document : ℕ) (id : List ℕ) (row : ConclusionRow)
    → is_conclusion document id row ≡ is_eq (conclusion_side document id row)
conclusion_meets document id row =
    then_meets (nat_cmp row.document document) (slice_cmp nat_cmp row.package_id id)
    (row.document == document) (bytes_eq row.package_id id) (numbers_meet row.document document)
    (texts_meet row.package_id id)

-- the same for the adoption of a reference
pub adoption_meets : (document : ℕ) (reference : List ℕ) (row : AdoptionRow)
    → is_adoption document reference row ≡ is_eq (adoption_side document reference row)
adoption_meets document reference row =
    then_meets (nat_cmp row.document document) (slice_cmp nat_cmp row.reference reference)
    (row.document == document) (bytes_eq row.reference reference)
    (numbers_meet row.document document) (texts_meet row.reference reference)

-- the same for the terms chosen for a package in a release
pub choice_meets : (release : List ℕ) (document : ℕ) (id : List ℕ) (row : ChoiceRow)
    → is_choice_of release document id row ≡ is_eq (choice_side release document id row)
choice_meets release document id row = three_meet row.release release row.document document
    row.package_id id
