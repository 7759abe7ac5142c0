use Rattle.desk_history_laws.proofs.Catalogues.{revisions-loads, rules-revisions, last-load, some-load, rules-listed}
use Rattle.desk_history_laws.proofs.catalogues_are_the_loads.Goals as goal

pub returns : goal.returns
returns c = record {
  revisions = revisions-loads;
  rules = rules-revisions;
  last = last-load;
  some = some-load;
  listed = rules-listed;
}
