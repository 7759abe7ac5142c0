use Rattle.desk_wanting.proofs.Firsts.{freeze_refused, freeze_accepted, freeze_full, freeze_only}
use Rattle.desk_wanting.proofs.laws.freeze_meets_the_first_refusal.Goals as goal

pub returns : goal.returns
returns c = record {
  refused = freeze_refused;
  accepted = freeze_accepted;
  full = freeze_full;
  only = freeze_only;
}
