-- On which side of what is sought a row is, and that this splits rows in order.
use Rattle.std.proofs.Common.{◌≡◌, ℕ, true, List, refl}
use Rattle.std.specs.Prelude.{ℤ, ◌&&◌}
use Rattle.std.specs.Ordering.{nat_cmp, int_cmp, int_eq, is_lt, is_eq, ordering_then, on, then_cmp}
use Rattle.std.specs.Cmp.{IsTotalOrder}
use Rattle.std.specs.Cmp.Lexicographic.{slice_cmp}
use Rattle.std.specs.Str.{bytes_eq}
use Rattle.std.specs.declared.cmp.Ordering.{Ordering}
use Rattle.std.specs.declared.cmp.Ordering.TheVariants.{Less, Equal, Greater}
use Rattle.std.proofs.lemmas.Cmp.{int_cmp_total, on_total, then_total, nat_list_cmp_total}
use Rattle.desk_sorted.specs.Sorted.{IsSideOf}
use Rattle.desk_sorted.specs.Sides.{side_by, first_less, texts_meet, then_meets}
use Rattle.desk_snapshot.specs.Orders.{attached_order, change_order, choice_order, conclusion_order}
use Rattle.desk_snapshot.specs.Orders.{frozen_order, package_order, reading_order, release_order}
use Rattle.desk_snapshot.specs.Orders.{waiver_order}
use Rattle.desk_snapshot.specs.Rows.{is_attachment, is_change_at, is_choice_of, is_conclusion, is_package, is_waiver_at}
use Rattle.desk_snapshot.specs.declared.rows.StoredAttached.{StoredAttached}
use Rattle.desk_snapshot.specs.declared.rows.StoredChange.{StoredChange}
use Rattle.desk_snapshot.specs.declared.rows.StoredChoice.{StoredChoice}
use Rattle.desk_snapshot.specs.declared.rows.StoredConclusion.{StoredConclusion}
use Rattle.desk_snapshot.specs.declared.rows.StoredFrozen.{StoredFrozen}
use Rattle.desk_snapshot.specs.declared.rows.StoredPackage.{StoredPackage}
use Rattle.desk_snapshot.specs.declared.rows.StoredReading.{StoredReading}
use Rattle.desk_snapshot.specs.declared.rows.StoredRelease.{StoredRelease}
use Rattle.desk_snapshot.specs.declared.rows.StoredWaiver.{StoredWaiver}

-- texts byte by byte
abbrev texts : List ℕ → List ℕ → Ordering
texts = slice_cmp nat_cmp

-- Less for a row before the profile of this document, Equal for that one, Greater for a row behind
-- it
abbrev pub reading_side : ℤ → StoredReading → Ordering
reading_side document row = int_cmp row.document document

-- the same for a package of a document
abbrev pub package_side : ℤ → List ℕ → StoredPackage → Ordering
package_side document id row = ordering_then (int_cmp row.document document)
    (slice_cmp nat_cmp row.id id)

-- the same for the conclusion of a package
abbrev pub conclusion_side : ℤ → List ℕ → StoredConclusion → Ordering
conclusion_side document id row = ordering_then (int_cmp row.document document)
    (slice_cmp nat_cmp row.package_id id)

-- the same for the release with a name
abbrev pub release_side : List ℕ → StoredRelease → Ordering
release_side name row = slice_cmp nat_cmp row.name name

-- the same for a document of a release
abbrev pub attachment_side : List ℕ → ℤ → StoredAttached → Ordering
attachment_side release document row = ordering_then (slice_cmp nat_cmp row.release release)
    (int_cmp row.document document)

-- the same for the terms chosen for a package in a release
abbrev pub choice_side : List ℕ → ℤ → List ℕ → StoredChoice → Ordering
choice_side release document id row =
    ordering_then (slice_cmp nat_cmp row.release release)
    (ordering_then (int_cmp row.document document) (slice_cmp nat_cmp row.package_id id))

-- the same for all that is chosen in a release
abbrev pub holder_side : List ℕ → StoredChoice → Ordering
holder_side release row = slice_cmp nat_cmp row.release release

-- the same for all that a release was frozen with
abbrev pub frozen_side : List ℕ → StoredFrozen → Ordering
frozen_side release row = slice_cmp nat_cmp row.release release

-- the same for all changes of a duty
abbrev pub change_side : ℤ → StoredChange → Ordering
change_side duty row = int_cmp row.duty duty

-- the same for one step of a duty
abbrev pub step_side : ℤ → ℤ → StoredChange → Ordering
step_side duty step row = ordering_then (int_cmp row.duty duty) (int_cmp row.step step)

-- the same for the last day of one step of a duty
abbrev pub waiver_side : ℤ → ℤ → StoredWaiver → Ordering
waiver_side duty step row = ordering_then (int_cmp row.duty duty) (int_cmp row.step step)

-- Keys of two and of three parts

-- keys made of a number and a text
abbrev number_text : ℤ × List ℕ → ℤ × List ℕ → Ordering
number_text = then_cmp (on (λ p. p.0) int_cmp) (on (λ p. p.1) (slice_cmp nat_cmp))

-- any two of them can be compared
number_text_total : IsTotalOrder number_text
number_text_total = then_total (on_total (λ p. p.0) int_cmp_total)
    (on_total (λ p. p.1) nat_list_cmp_total)

-- keys made of a text and a number
abbrev text_number : List ℕ × ℤ → List ℕ × ℤ → Ordering
text_number = then_cmp (on (λ p. p.0) (slice_cmp nat_cmp)) (on (λ p. p.1) int_cmp)

-- any two of them can be compared
text_number_total : IsTotalOrder text_number
text_number_total = then_total (on_total (λ p. p.0) nat_list_cmp_total)
    (on_total (λ p. p.1) int_cmp_total)

-- keys made of two numbers
abbrev two_numbers : ℤ × ℤ → ℤ × ℤ → Ordering
two_numbers = then_cmp (on (λ p. p.0) int_cmp) (on (λ p. p.1) int_cmp)

-- any two of them can be compared
two_numbers_total : IsTotalOrder two_numbers
two_numbers_total = then_total (on_total (λ p. p.0) int_cmp_total)
    (on_total (λ p. p.1) int_cmp_total)

-- keys made of a text, a number and a text
abbrev three_parts : List ℕ × ℤ × List ℕ → List ℕ × ℤ × List ℕ → Ordering
three_parts = then_cmp (on (λ p. p.0) (slice_cmp nat_cmp))
    (then_cmp (on (λ p. p.1) int_cmp) (on (λ p. p.2) (slice_cmp nat_cmp)))

-- any two of them can be compared
three_parts_total : IsTotalOrder three_parts
three_parts_total =
    then_total (on_total (λ p. p.0) nat_list_cmp_total)
    (then_total (on_total (λ p. p.1) int_cmp_total) (on_total (λ p. p.2) nat_list_cmp_total))

-- what comes before by the first three parts of a key comes before, whatever the fourth is
three_less : (a b c d : Ordering) → is_lt (ordering_then a (ordering_then b c)) ≡ true
    → is_lt (ordering_then a (ordering_then b (ordering_then c d))) ≡ true
three_less Less b c d e = refl
three_less Equal Less c d e = refl
three_less Equal Equal c d e = first_less c d e
three_less Equal Greater c d e = cc
three_less Greater b c d e = cc

-- in the order of profiles the rows before that of a document come first, then it, then those
-- behind it
pub reading_splits : (document : ℤ) → IsSideOf reading_order (reading_side document)
reading_splits document = side_by reading_order (λ row. row.document) int_cmp int_cmp_total
    (λ x y e. e) document

-- the same for a package of a document
pub package_splits : (document : ℤ) (id : List ℕ)
    → IsSideOf package_order (package_side document id)
package_splits document id = side_by package_order (λ row. (row.document, row.id)) number_text
    number_text_total (λ x y e. e) (document, id)

-- the same for the conclusion of a package
pub conclusion_splits : (document : ℤ) (id : List ℕ)
    → IsSideOf conclusion_order (conclusion_side document id)
conclusion_splits document id =
    side_by conclusion_order (λ row. (row.document, row.package_id)) number_text number_text_total
    (λ x y e. e) (document, id)

-- the same for the release with a name
pub release_splits : (name : List ℕ) → IsSideOf release_order (release_side name)
release_splits name = side_by release_order (λ row. row.name) texts nat_list_cmp_total (λ x y e. e)
    name

-- the same for a document of a release
pub attachment_splits : (release : List ℕ) (document : ℤ)
    → IsSideOf attached_order (attachment_side release document)
attachment_splits release document =
    side_by attached_order (λ row. (row.release, row.document)) text_number text_number_total
    (λ x y e. e) (release, document)

-- the same for the terms chosen for a package in a release: all of a choice's key but its term
pub choice_splits : (release : List ℕ) (document : ℤ) (id : List ℕ)
    → IsSideOf choice_order (choice_side release document id)
choice_splits release document id =
    side_by choice_order (λ row. (row.release, row.document, row.package_id)) three_parts
    three_parts_total
    (λ x y e. three_less (texts y.release x.release) (int_cmp y.document x.document)
    (texts y.package_id x.package_id) (texts y.term x.term) e)
    (release, document, id)

-- the same for all that is chosen in a release, since the order of choices begins with it
pub holder_splits : (release : List ℕ) → IsSideOf choice_order (holder_side release)
holder_splits release =
    side_by choice_order (λ row. row.release) texts nat_list_cmp_total
    (λ x y e. first_less (texts y.release x.release) _ e) release

-- the same for all that a release was frozen with
pub frozen_splits : (release : List ℕ) → IsSideOf frozen_order (frozen_side release)
frozen_splits release =
    side_by frozen_order (λ row. row.release) texts nat_list_cmp_total
    (λ x y e. first_less (texts y.release x.release) _ e) release

-- the same for all changes of a duty
pub change_splits : (duty : ℤ) → IsSideOf change_order (change_side duty)
change_splits duty =
    side_by change_order (λ row. row.duty) int_cmp int_cmp_total
    (λ x y e. first_less (int_cmp y.duty x.duty) _ e) duty

-- the same for one step of a duty
pub step_splits : (duty step : ℤ) → IsSideOf change_order (step_side duty step)
step_splits duty step = side_by change_order (λ row. (row.duty, row.step)) two_numbers
    two_numbers_total (λ x y e. e) (duty, step)

-- the same for the last day of one step of a duty
pub waiver_splits : (duty step : ℤ) → IsSideOf waiver_order (waiver_side duty step)
waiver_splits duty step = side_by waiver_order (λ row. (row.duty, row.step)) two_numbers
    two_numbers_total (λ x y e. e) (duty, step)

-- The rows with a key are those on neither side of it

-- a row is the package of a document with an id if and only if its side is Equal
pub package_meets : (document : ℤ) (id : List ℕ) (row : StoredPackage)
    → is_package document id row ≡ is_eq (package_side document id row)
package_meets document id row =
    then_meets (int_cmp row.document document) (texts row.id id) (int_eq row.document document)
    (bytes_eq row.id id) refl (texts_meet row.id id)

-- the same for the conclusion of a package
pub conclusion_meets : (document : ℤ) (id : List ℕ) (row : StoredConclusion)
    → is_conclusion document id row ≡ is_eq (conclusion_side document id row)
conclusion_meets document id row =
    then_meets (int_cmp row.document document) (texts row.package_id id)
    (int_eq row.document document) (bytes_eq row.package_id id) refl (texts_meet row.package_id id)

-- the same for a document of a release
pub attachment_meets : (release : List ℕ) (document : ℤ) (row : StoredAttached)
    → is_attachment release document row ≡ is_eq (attachment_side release document row)
attachment_meets release document row =
    then_meets (texts row.release release) (int_cmp row.document document)
    (bytes_eq row.release release) (int_eq row.document document) (texts_meet row.release release)
    refl

-- the same for the terms chosen for a package in a release
pub choice_meets : (release : List ℕ) (document : ℤ) (id : List ℕ) (row : StoredChoice)
    → is_choice_of release document id row ≡ is_eq (choice_side release document id row)
choice_meets release document id row =
    then_meets (texts row.release release)
    (ordering_then (int_cmp row.document document) (texts row.package_id id))
    (bytes_eq row.release release) (int_eq row.document document && bytes_eq row.package_id id)
    (texts_meet row.release release)
    (then_meets (int_cmp row.document document) (texts row.package_id id)
    (int_eq row.document document) (bytes_eq row.package_id id) refl (texts_meet row.package_id id))

-- the same for one step of a duty
pub step_meets : (duty step : ℤ) (row : StoredChange)
    → is_change_at duty step row ≡ is_eq (step_side duty step row)
step_meets duty step row =
    then_meets (int_cmp row.duty duty) (int_cmp row.step step) (int_eq row.duty duty)
    (int_eq row.step step) refl refl

-- the same for the last day of one step of a duty
pub waiver_meets : (duty step : ℤ) (row : StoredWaiver)
    → is_waiver_at duty step row ≡ is_eq (waiver_side duty step row)
waiver_meets duty step row =
    then_meets (int_cmp row.duty duty) (int_cmp row.step step) (int_eq row.duty duty)
    (int_eq row.step step) refl refl
