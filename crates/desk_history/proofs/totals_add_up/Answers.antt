use Rattle.desk_model.specs.Queries.{duties_of}
use Rattle.desk_history.proofs.Counting.{conserved}
use Rattle.desk_history.proofs.totals_add_up.Goals as goal

pub returns : goal.returns
returns c = λ w h r. conserved (duties_of w h r)
