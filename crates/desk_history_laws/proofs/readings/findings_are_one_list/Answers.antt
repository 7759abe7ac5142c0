use Rattle.desk_history_laws.proofs.Findings.{findings_exist, one_list}
use Rattle.desk_history_laws.proofs.readings.findings_are_one_list.Goals as goal

pub returns : goal.returns
returns c = record { some = findings_exist; one = one_list }
