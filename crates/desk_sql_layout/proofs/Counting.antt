-- What a store knows of its rows, after a change.
use Rattle.std.proofs.Common.{◌≡◌, length, refl}
use Rattle.std.proofs.Common.{length-append}
use Rattle.std.proofs.lemmas.List.{length_push}
use Rattle.desk_model.specs.Keys.{release_below, is_release}
use Rattle.desk_model.specs.Tables.{Tables, applied, with_release_state, withdrawn_release}
use Rattle.desk_model.specs.declared.state.ReleaseState.TheVariants.{Frozen}
use Rattle.desk_model.specs.declared.command.Change.{Change}
use Rattle.desk_model.specs.declared.command.Change.TheVariants.{Loaded, Imported, Opened, Attached}
use Rattle.desk_model.specs.declared.command.Change.TheVariants.{Chosen, Froze, Moved, Withdrew}
use Rattle.desk_model.specs.declared.command.Change.TheVariants.{Concluded, Adopted}
use Rattle.desk_model.proofs.Lists.{length-put, length-updated}
use Rattle.desk_sql_layout.specs.Held.{known_of, known_after}
use Rattle.desk_sql_layout.proofs.Orderly.{moved_length}

pub known_kept : (change : Change) (t : Tables)
    → known_of (applied change t) ≡ known_after change (known_of t)
known_kept (Loaded row rules forms) t = λ i.
    record {
      revisions = length_push t.catalogue row i;
      documents = length t.document;
      releases = length t.releases;
      duties = length t.duty;
      forms = forms;
    }
known_kept (Imported row packages references) t = λ i.
    record {
      revisions = length t.catalogue;
      documents = length_push t.document row i;
      releases = length t.releases;
      duties = length t.duty;
      forms = t.forms;
    }
known_kept (Opened row) t = λ i.
    record {
      revisions = length t.catalogue;
      documents = length t.document;
      releases = length-put release_below row t.releases i;
      duties = length t.duty;
      forms = t.forms;
    }
known_kept (Attached row) t = refl
known_kept (Chosen release document package_id rows) t = refl
known_kept (Froze release revision frozen duties changes) t = λ i. record {
  revisions = length t.catalogue;
  documents = length t.document;
  releases = length-updated (is_release release) (with_release_state Frozen revision) t.releases i;
  duties = length-append t.duty duties i;
  forms = t.forms;
}
known_kept (Moved changes) t = λ i.
    record {
      revisions = length t.catalogue;
      documents = length t.document;
      releases = length t.releases;
      duties = moved_length changes t.duty i;
      forms = t.forms;
    }
known_kept (Withdrew release changes) t = λ i. record {
  revisions = length t.catalogue;
  documents = length t.document;
  releases = length-updated (is_release release) withdrawn_release t.releases i;
  duties = moved_length changes t.duty i;
  forms = t.forms;
}
known_kept (Concluded row) t = refl
known_kept (Adopted row) t = refl
