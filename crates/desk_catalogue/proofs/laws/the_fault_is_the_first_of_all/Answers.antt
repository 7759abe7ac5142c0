use Rattle.desk_catalogue.proofs.AllFirst.{all_first}
use Rattle.desk_catalogue.proofs.laws.the_fault_is_the_first_of_all.Goals as goal

pub returns : goal.returns
returns c = all_first
