use Rattle.desk_catalogue.proofs.OrderLaws.{rules_sorted}
use Rattle.desk_catalogue.proofs.laws.rules_stand_once.Goals as goal

pub returns : goal.returns
returns c = rules_sorted
