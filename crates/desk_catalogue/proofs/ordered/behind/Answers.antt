use Rattle.std.proofs.Common.{◌∙◌}
use Rattle.desk_catalogue.proofs.PrintedLemmas.{front_there, front_absent}
use Rattle.desk_catalogue.proofs.Sought.{side_apart}
use Rattle.desk_catalogue.proofs.ordered.behind.Goals as goal

pub returns-in-Some-clause-ok : goal.returns-in-Some-clause-ok
returns-in-Some-clause-ok c = front_there c.args.bytes.now c.args.front.now c.in-Some.rest.now
    c.in-Some.ensures.cases.0 c.in-Some.ensures.cases.1

pub returns-in-None-clause-err : goal.returns-in-None-clause-err
returns-in-None-clause-err c = λ more.
    c.cmp.ensures ∙ side_apart c.args.bytes.now c.args.front.now more
    (λ rest is. front_absent c.args.bytes.now c.args.front.now rest c.in-None.ensures.cases is)
