use Rattle.desk_laws.proofs.Opened.{shows}
use Rattle.desk_laws.proofs.tables.what_a_stop_leaves_opens_again.Goals as goal

pub returns : goal.returns
returns c = λ start left t is stands. shows _ left t is stands
