use Rattle.desk_bom.proofs.CodeLemmas.{not_list}
use Rattle.desk_bom.proofs.state.list_inside.Goals as goal

pub returns-in-Some-clause-none : goal.returns-in-Some-clause-none
returns-in-Some-clause-none c = not_list c.args.text.now c.in-Some.rest.now c.strip_suffix.result
    c.in-Some.ensures.rest c.strip_suffix.ensures.cases
