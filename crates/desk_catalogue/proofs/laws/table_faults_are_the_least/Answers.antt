use Rattle.desk_catalogue.proofs.LeastFaults.{duty_table, table_fault, text_table}
use Rattle.desk_catalogue.proofs.laws.table_faults_are_the_least.Goals as goal

pub returns : goal.returns
returns c = record { duty = duty_table; rule = table_fault; text = text_table }
