use Rattle.std.proofs.Common.{◌≡◌, map, take}
use Rattle.desk_sql_lookup.specs.Standings.{standing_by}
use Rattle.desk_model.specs.Tables.{Tables}
use Rattle.desk_sql_lookup.specs.Steps.{HaveSteps}
use Rattle.desk_sql_lookup.proofs.runs.standings_in.Given as goal

abbrev pub invariant-loop-row : goal.invariant-loop-row
invariant-loop-row l = (t : Tables) → HaveSteps l.first l.steps t
    → l.found.items ≡ map (standing_by t) (take l.row-index l.rows)
