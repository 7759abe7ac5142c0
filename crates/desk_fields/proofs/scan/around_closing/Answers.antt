use Rattle.desk_fields.proofs.Scans.{closing_none, closing_some}
use Rattle.desk_fields.proofs.scan.around_closing.Goals as goal

pub returns-clause-none : goal.returns-clause-none
returns-clause-none c = closing_none c.args.inner.now c.split_once.result c.split_once.ensures.cases

pub returns-clause-some : goal.returns-clause-some
returns-clause-some c = closing_some c.args.inner.now c.split_once.result c.split_once.ensures.cases
