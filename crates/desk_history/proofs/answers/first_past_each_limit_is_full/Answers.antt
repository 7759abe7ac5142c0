use Rattle.desk_history.proofs.Full.{revisions_full, documents_full, releases_full, attached_full}
use Rattle.desk_history.proofs.Full.{adoptions_full, duties_full, changes_full}
use Rattle.desk_history.proofs.answers.first_past_each_limit_is_full.Goals as goal

pub returns : goal.returns
returns c = record {
  revisions = revisions_full;
  documents = documents_full;
  releases = releases_full;
  attached = attached_full;
  adoptions = adoptions_full;
  duties = duties_full;
  changes = changes_full;
}
