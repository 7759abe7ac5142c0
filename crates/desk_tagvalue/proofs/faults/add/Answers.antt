use Rattle.desk_tagvalue.proofs.SeenLemmas.{one_more}
use Rattle.desk_tagvalue.proofs.faults.add.Goals as goal

pub returns-in-Ok-true-clause-added : goal.returns-in-Ok-true-clause-added
returns-in-Ok-true-clause-added c = λ q. one_more c.args.entry.now.value c.args.ids.now
    c.insert.new.self c.in-Ok-true.ensures.updates q
