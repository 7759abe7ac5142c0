use Rattle.desk_history.proofs.RaisedLaw.{is_in_raised, raised_in}
use Rattle.desk_history.proofs.raised_exactly.Goals as goal

pub returns : goal.returns
returns c = record { held = is_in_raised; only = raised_in }
