use Rattle.desk_tagvalue.proofs.SeenLemmas.{one_more}
use Rattle.desk_findings.proofs.document.add_defined.Goals as goal

pub returns : goal.returns
returns c = λ q. one_more c.args.licence.now.id c.args.defined.now c.insert.new.self
    c.in_ok-insert.ensures.updates q
