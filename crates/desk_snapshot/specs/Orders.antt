-- The orders of rows by the keys of their tables (`desk_sql_layout`).
use Rattle.std.specs.Prelude.{ℕ, ℤ, List}
use Rattle.std.specs.Cmp.{IsTotalOrder}
use Rattle.std.specs.Cmp.Lexicographic.{slice_cmp}
use Rattle.std.specs.Ordering.{nat_cmp, int_cmp, on, then_cmp}
use Rattle.std.specs.declared.cmp.Ordering.{Ordering}
use Rattle.std.proofs.lemmas.Cmp.{int_cmp_total, on_total, then_total, nat_list_cmp_total}
use Rattle.desk_snapshot.specs.declared.rows.StoredAttached.{StoredAttached}
use Rattle.desk_snapshot.specs.declared.rows.StoredChange.{StoredChange}
use Rattle.desk_snapshot.specs.declared.rows.StoredChoice.{StoredChoice}
use Rattle.desk_snapshot.specs.declared.rows.StoredConclusion.{StoredConclusion}
use Rattle.desk_snapshot.specs.declared.rows.StoredFrozen.{StoredFrozen}
use Rattle.desk_snapshot.specs.declared.rows.StoredPackage.{StoredPackage}
use Rattle.desk_snapshot.specs.declared.rows.StoredReading.{StoredReading}
use Rattle.desk_snapshot.specs.declared.rows.StoredRelease.{StoredRelease}
use Rattle.desk_snapshot.specs.declared.rows.StoredWaiver.{StoredWaiver}

-- by a number, and by a text
abbrev pub by_number : {A : Type 0} → (A → ℤ) → A → A → Ordering
by_number f = on f int_cmp

-- and by a text, byte by byte
abbrev pub by_text : {A : Type 0} → (A → List ℕ) → A → A → Ordering
by_text f = on f (slice_cmp nat_cmp)

-- profiles by document
abbrev pub reading_order : StoredReading → StoredReading → Ordering
reading_order = by_number (λ row. row.document)

-- packages by document and id
abbrev pub package_order : StoredPackage → StoredPackage → Ordering
package_order = then_cmp (by_number (λ row. row.document)) (by_text (λ row. row.id))

-- conclusions by document and package
abbrev pub conclusion_order : StoredConclusion → StoredConclusion → Ordering
conclusion_order = then_cmp (by_number (λ row. row.document)) (by_text (λ row. row.package_id))

-- releases by name
abbrev pub release_order : StoredRelease → StoredRelease → Ordering
release_order = by_text (λ row. row.name)

-- attached documents by release and number
abbrev pub attached_order : StoredAttached → StoredAttached → Ordering
attached_order = then_cmp (by_text (λ row. row.release)) (by_number (λ row. row.document))

-- choices by release, document, package and term
abbrev pub choice_order : StoredChoice → StoredChoice → Ordering
choice_order =
    then_cmp (by_text (λ row. row.release)) (then_cmp (by_number (λ row. row.document))
    (then_cmp (by_text (λ row. row.package_id)) (by_text (λ row. row.term))))

-- frozen terms by release, document, package and term
abbrev pub frozen_order : StoredFrozen → StoredFrozen → Ordering
frozen_order =
    then_cmp (by_text (λ row. row.release)) (then_cmp (by_number (λ row. row.document))
    (then_cmp (by_text (λ row. row.package_id)) (by_text (λ row. row.term))))

-- changes by duty and step
abbrev pub change_order : StoredChange → StoredChange → Ordering
change_order = then_cmp (by_number (λ row. row.duty)) (by_number (λ row. row.step))

-- last days of waivers by duty and step
abbrev pub waiver_order : StoredWaiver → StoredWaiver → Ordering
waiver_order = then_cmp (by_number (λ row. row.duty)) (by_number (λ row. row.step))

-- rows can be compared by any of their numbers
pub number_total : {A : Type 0} (f : A → ℤ) → IsTotalOrder (by_number f)
number_total f = on_total f int_cmp_total

-- rows can be compared by any of their texts
pub text_total : {A : Type 0} (f : A → List ℕ) → IsTotalOrder (by_text f)
text_total f = on_total f nat_list_cmp_total

-- any two profiles of documents can be compared
pub reading_total : IsTotalOrder reading_order
reading_total = number_total (λ row. row.document)

-- any two packages can be compared
pub package_total : IsTotalOrder package_order
package_total = then_total (number_total (λ row. row.document)) (text_total (λ row. row.id))

-- any two conclusions can be compared
pub conclusion_total : IsTotalOrder conclusion_order
conclusion_total = then_total (number_total (λ row. row.document))
    (text_total (λ row. row.package_id))

-- any two releases can be compared
pub release_total : IsTotalOrder release_order
release_total = text_total (λ row. row.name)

-- any two attachments can be compared
pub attached_total : IsTotalOrder attached_order
attached_total = then_total (text_total (λ row. row.release)) (number_total (λ row. row.document))

-- any two choices can be compared
pub choice_total : IsTotalOrder choice_order
choice_total =
    then_total (text_total (λ row. row.release)) (then_total (number_total (λ row. row.document))
    (then_total (text_total (λ row. row.package_id)) (text_total (λ row. row.term))))

-- any two frozen terms can be compared
pub frozen_total : IsTotalOrder frozen_order
frozen_total =
    then_total (text_total (λ row. row.release)) (then_total (number_total (λ row. row.document))
    (then_total (text_total (λ row. row.package_id)) (text_total (λ row. row.term))))

-- any two changes can be compared
pub change_total : IsTotalOrder change_order
change_total = then_total (number_total (λ row. row.duty)) (number_total (λ row. row.step))

-- any two waivers can be compared
pub waiver_total : IsTotalOrder waiver_order
waiver_total = then_total (number_total (λ row. row.duty)) (number_total (λ row. row.step))
