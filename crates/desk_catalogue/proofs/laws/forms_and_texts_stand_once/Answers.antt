use Rattle.desk_catalogue.proofs.StandOnce.{stand_once}
use Rattle.desk_catalogue.proofs.laws.forms_and_texts_stand_once.Goals as goal

pub returns : goal.returns
returns c = stand_once
