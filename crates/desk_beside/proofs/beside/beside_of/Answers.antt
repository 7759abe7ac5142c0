use Rattle.std.proofs.Common.{◌≡◌, ◌∙◌, rules}
use Rattle.desk_model.specs.Readings.{Readings}
use Rattle.desk_model.specs.Tables.{Tables}
use Rattle.desk_model.specs.declared.command.Fault.TheVariants.{Memory}
use Rattle.desk_snapshot.specs.Tables.{catalogue_stored, document_stored, duty_stored, release_stored}
use Rattle.std.specs.Option.{option_copied}
use Rattle.desk_texts.specs.Right.{AreRight}
use Rattle.desk_beside.specs.Beside.{AreFew, CanKeep, HasNumbers, ShowsTables}
use Rattle.desk_beside.proofs.Stored.{as_long, forms_found, reads_found}
use Rattle.desk_beside.proofs.beside.beside_of.Goals as goal

pub returns-in_err-forms-clause-cause : goal.returns-in_err-forms-clause-cause
returns-in_err-forms-clause-cause c =
    let s = c.args.snapshot.now in
    let told : (w : Readings) → AreRight w → (t : Tables) → ShowsTables s t → CanKeep w t
    → AreFew s → HasNumbers s → c.in_err-forms.field-0.0 ≡ Memory =
    λ w right t shows can few numbers. c.in_err-forms.ensures.cause w right
    (reads_found w t c.in_ok-counts.counts.revisions c.as_slice.result.now
    (c.as_slice.ensures ∙ shows.catalogue) (option_copied c.revision_in-revision.result)
    c.revision_in-revision.ensures
    (as_long catalogue_stored t.catalogue s.catalogue c.in_ok-counts.counts.revisions
    shows.catalogue c.in_ok-counts.ensures.revisions) can) in
    search rules

pub returns-clause-kept : goal.returns-clause-kept
returns-clause-kept c = λ t shows.
    let s = c.args.snapshot.now in
    let counts = c.in_ok-counts.counts in
    record {
      counts = record {
        revisions = as_long catalogue_stored t.catalogue s.catalogue counts.revisions
            shows.catalogue c.in_ok-counts.ensures.revisions;
        documents = as_long document_stored t.document s.document counts.documents
            shows.document c.in_ok-counts.ensures.documents;
        releases = as_long release_stored t.releases s.releases counts.releases shows.releases
            c.in_ok-counts.ensures.releases;
        duties = as_long duty_stored t.duty s.duty counts.duties shows.duty
            c.in_ok-counts.ensures.duties;
      };
      forms = λ w right. c.in_ok-forms.ensures.value w right
          ∙ forms_found w t counts.revisions c.as_slice.result.now
          (c.as_slice.ensures ∙ shows.catalogue) (option_copied c.revision_in-revision.result)
          c.revision_in-revision.ensures;
      tallies = c.in_ok-tallies.ensures.kept t shows;
    }
