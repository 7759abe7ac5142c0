use Rattle.std.proofs.Common.{◌≡◌, ◌∙◌, ℕ, List, Some, rules, sym, take, true≢false}
use Rattle.std.specs.List.{flat_map}
use Rattle.std.specs.Option.{option_copied}
use Rattle.std.proofs.lemmas.List.{take_all}
use Rattle.desk_model.specs.declared.reading.Document.{Document}
use Rattle.desk_snapshot.specs.Conditions.{extracted_by, is_read, packages_by, stored_extracted, stored_package}
use Rattle.desk_snapshot.specs.declared.rows.StoredDocument.{StoredDocument}
use Rattle.desk_snapshot.specs.declared.rows.StoredExtracted.{StoredExtracted}
use Rattle.desk_snapshot.specs.declared.rows.StoredPackage.{StoredPackage}
use Rattle.desk_snapshot.specs.declared.snapshot.Snapshot.{Snapshot}
use Rattle.desk_audit_texts.specs.Listed.{IsReadAs}
use Rattle.desk_audit_texts.proofs.Given.{extracted_given, packages_given}
use Rattle.desk_audit_texts.proofs.Judged.{extracted_left, packages_left}
use Rattle.desk_audit_texts.proofs.Rows.{all_on, left_given}
use Rattle.desk_audit_texts.proofs.documents.document_fault.Goals as goal
use Rattle.desk_audit_texts.proofs.documents.document_fault.Goals.{then-not-are_used_up-via-then-not-are_used_up}
use Rattle.desk_audit_texts.proofs.documents.document_fault.Goals.{then-not-are_used_up-via-else-not-are_used_up+then-not-are_used_up-2}

pub loop-row-preserved : goal.loop-row-preserved
loop-row-preserved g c = λ w right.
    let rows : List StoredDocument = c.as_slice-documents.result.now in
    let row : StoredDocument = c.row-item.result in
    let read : Document = c.in-Some.document in
    let i : ℕ = c.loop-row.row-index in
    let before = c.loop-row.invariant w right in
    let said : IsReadAs w row (Some read) = rw c.in-Some.is at (c.in_ok-document.ensures w right) in
    let packages : List StoredPackage = c.args.snapshot.now.packages in
    let extracted : List StoredExtracted = c.args.snapshot.now.extracted in
    record {
      read = all_on (is_read w) rows i row c.loop-row-test.true c.row-item.is before.read said.0;
      packages = left_given (packages_by w) stored_package rows i row row.number
          c.number-number.result
          c.as_slice-in-loop-row.result.now read.packages
          packages (option_copied c.left_behind-packages.result) c.loop-row-test.true c.row-item.is
          (search rules) c.number-number.ensures c.as_slice-in-loop-row.ensures
          (packages_given w row read said.1)
          (c.left_behind-packages.ensures packages (flat_map (packages_by w) (take i rows))
          before.packages);
      extracted = left_given (extracted_by w) stored_extracted rows i row row.number
          c.number-number.result
          c.as_slice-in-loop-row-2.result.now read.references
          extracted (option_copied c.left_behind-extracted.result) c.loop-row-test.true
          c.row-item.is
          (search rules) c.number-number.ensures c.as_slice-in-loop-row-2.ensures
          (extracted_given w row read said.1)
          (c.left_behind-extracted.ensures extracted (flat_map (extracted_by w) (take i rows))
          before.extracted);
    }

pub returns-then-not-are_used_up : goal.returns-then-not-are_used_up
returns-then-not-are_used_up g c = λ w right.
    let s : Snapshot = c.args.snapshot.now in
    let rows : List StoredDocument = c.as_slice-documents.result.now in
    let all : take c.loop-row.row-index rows ≡ rows =
    take_all c.loop-row.row-index rows c.loop-row-test.false in
    let before = c.loop-row.invariant w right in
    let listed = c.are_listed.ensures.0 c.if-not-are_listed.false in
    elim c.then-not-are_used_up.branch [
      | then-not-are_used_up-via-then-not-are_used_up b ↦
          packages_left w s rows (option_copied c.loop-row.packages) c.as_slice-documents.ensures
          listed
          (rw all at before.read) (rw all at before.packages)
          (λ e. true≢false (sym (c.are_used_up.ensures.1 e) ∙ b.if-not-are_used_up.true))
      | then-not-are_used_up-via-else-not-are_used_up+then-not-are_used_up-2 b ↦
          extracted_left w s rows (option_copied c.loop-row.extracted) c.as_slice-documents.ensures
          listed
          (rw all at before.read) (rw all at before.extracted)
          (λ e. true≢false (sym (b.are_used_up-else-not-are_used_up.ensures.1 e)
          ∙ b.if-not-are_used_up-2.true))
    ]
