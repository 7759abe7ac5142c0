use Rattle.desk_history.proofs.ReadyLaws.{listed, listed_only, open_listed, closed_listed}
use Rattle.desk_history.proofs.ReadyLaws.{lines_listed, totals_ready, waivers_last}
use Rattle.desk_history.proofs.row_laws.ready_releases_owe_nothing.Goals as goal

pub returns : goal.returns
returns c = record {
  listed = listed;
  only = listed_only;
  still_open = open_listed;
  closed = closed_listed;
  lines = lines_listed;
  totals = totals_ready;
  waivers = waivers_last;
}
