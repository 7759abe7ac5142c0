use Rattle.desk_history_laws.proofs.Days.{days_as_dates, before_as_dates}
use Rattle.desk_history_laws.proofs.days_compare_as_dates.Goals as goal

pub returns-clause-order : goal.returns-clause-order
returns-clause-order c = days_as_dates

pub returns-clause-before : goal.returns-clause-before
returns-clause-before c = before_as_dates
