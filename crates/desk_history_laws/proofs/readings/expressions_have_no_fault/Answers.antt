use Rattle.desk_history_laws.proofs.Rights.{expression_or_fault}
use Rattle.desk_history_laws.proofs.readings.expressions_have_no_fault.Goals as goal

pub returns : goal.returns
returns c = expression_or_fault
