use Rattle.desk_laws.proofs.Desks.{none_bound, none_missing}
use Rattle.desk_laws.proofs.schemas.none_may_be_missing_or_bound.Goals as goal

pub returns-clause-missing : goal.returns-clause-missing
returns-clause-missing c = none_missing

pub returns-clause-bound : goal.returns-clause-bound
returns-clause-bound c = none_bound
