-- The orders of the tables.
use Rattle.std.specs.Ordering.{nat_cmp, on}
use Rattle.std.specs.Cmp.{IsTotalOrder}
use Rattle.std.specs.Cmp.Lexicographic.{slice_cmp}
use Rattle.std.specs.declared.cmp.Ordering.{Ordering}
use Rattle.std.proofs.lemmas.Cmp.{on_total, then_total, nat_list_cmp_total, nat_cmp_total}
use Rattle.desk_model.specs.Keys.{adoption_order, attached_order, choice_order, conclusion_order, extracted_order}
use Rattle.desk_model.specs.Keys.{frozen_order, package_order}
use Rattle.desk_model.specs.declared.row.DocumentRow.{DocumentRow}
use Rattle.desk_model.specs.declared.row.ReleaseRow.{ReleaseRow}

-- documents by number
abbrev pub document_order : DocumentRow → DocumentRow → Ordering
document_order = on (λ row. row.number) nat_cmp

-- releases by name
abbrev pub release_order : ReleaseRow → ReleaseRow → Ordering
release_order = on (λ row. row.name) (slice_cmp nat_cmp)

-- any two documents can be compared
pub document_total : IsTotalOrder document_order
document_total = on_total (λ row. row.number) nat_cmp_total

-- any two packages can be compared
pub package_total : IsTotalOrder package_order
package_total = then_total (on_total (λ row. row.document) nat_cmp_total)
    (on_total (λ row. row.id) nat_list_cmp_total)

-- any two extracted texts can be compared
pub extracted_total : IsTotalOrder extracted_order
extracted_total = then_total (on_total (λ row. row.document) nat_cmp_total)
    (on_total (λ row. row.reference) nat_list_cmp_total)

-- any two releases can be compared
pub release_total : IsTotalOrder release_order
release_total = on_total (λ row. row.name) nat_list_cmp_total

-- any two conclusions can be compared
pub conclusion_total : IsTotalOrder conclusion_order
conclusion_total = then_total (on_total (λ row. row.document) nat_cmp_total)
    (on_total (λ row. row.package_id) nat_list_cmp_total)

-- any two adoptions can be compared
pub adoption_total : IsTotalOrder adoption_order
adoption_total = then_total (on_total (λ row. row.document) nat_cmp_total)
    (on_total (λ row. row.reference) nat_list_cmp_total)

-- any two attachments can be compared
pub attached_total : IsTotalOrder attached_order
attached_total = then_total (on_total (λ row. row.release) nat_list_cmp_total)
    (on_total (λ row. row.document) nat_cmp_total)

-- any two choices can be compared
pub choice_total : IsTotalOrder choice_order
choice_total =
    then_total (on_total (λ row. row.release) nat_list_cmp_total)
    (then_total (on_total (λ row. row.document) nat_cmp_total)
    (then_total (on_total (λ row. row.package_id) nat_list_cmp_total)
    (on_total (λ row. row.term) nat_list_cmp_total)))

-- any two frozen terms can be compared
pub frozen_total : IsTotalOrder frozen_order
frozen_total =
    then_total (on_total (λ row. row.release) nat_list_cmp_total)
    (then_total (on_total (λ row. row.document) nat_cmp_total)
    (then_total (on_total (λ row. row.package_id) nat_list_cmp_total)
    (on_total (λ row. row.term) nat_list_cmp_total)))
