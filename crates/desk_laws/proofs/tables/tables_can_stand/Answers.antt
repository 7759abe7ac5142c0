use Rattle.desk_model.specs.Tables.{tables}
use Rattle.desk_laws.proofs.Small.{stand, written}
use Rattle.desk_laws.proofs.tables.tables_can_stand.Goals as goal

pub returns : goal.returns
returns c = record {
  stand = λ w h right ok short. stand (tables w h) short (c.rows_stay_within_limits.ensures w h ok)
      (c.keys_stand_once.ensures w h right ok);
  written = λ w h ok short. written (tables w h) short (c.rows_stay_within_limits.ensures w h ok);
}
