use Rattle.desk_history_laws.proofs.Releases.{last-form, last-state, place-opened, revision-frozen, revision-unfrozen}
use Rattle.desk_history_laws.proofs.releases_are_the_last_entries.Goals as goal

pub returns : goal.returns
returns c = record {
  form = last-form;
  state = last-state;
  place = place-opened;
  revision = revision-frozen;
  unfrozen = revision-unfrozen;
}
