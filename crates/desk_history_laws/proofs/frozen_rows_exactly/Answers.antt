use Rattle.desk_history_laws.proofs.FrozenRows.{in_frozen, from_frozen, frozen_once}
use Rattle.desk_history_laws.proofs.frozen_rows_exactly.Goals as goal

pub returns : goal.returns
returns c = record {
  held = in_frozen;
  only = from_frozen c.frozen_terms_were_held.ensures.held;
  once = frozen_once;
}
