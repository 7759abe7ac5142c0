use Rattle.desk_tagvalue.proofs.TextTests.{behind_none, behind_some, behind_rest}
use Rattle.desk_tagvalue.proofs.ids.behind.Goals as goal

pub returns-clause-none : goal.returns-clause-none
returns-clause-none c = behind_none c.args.front.now c.args.text.now c.strip_prefix.result
    c.strip_prefix.ensures.cases

pub returns-clause-some : goal.returns-clause-some
returns-clause-some c = behind_some c.args.front.now c.args.text.now c.strip_prefix.result
    c.strip_prefix.ensures.cases

pub returns-clause-rest : goal.returns-clause-rest
returns-clause-rest c = behind_rest c.args.front.now c.args.text.now c.strip_prefix.result
    c.strip_prefix.ensures.cases
