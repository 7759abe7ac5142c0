use Rattle.desk_tagvalue.proofs.WriteLemmas.{stopped_at}
use Rattle.desk_tagvalue.proofs.writing.put_all.Goals as goal

pub returns-in-Err-clause-err : goal.returns-in-Err-clause-err
returns-in-Err-clause-err c = stopped_at c.args.lines.now c.loop-line.line-index _ c.in-Err.fault
    c.loop-line-test.true c.in-Err.ensures.err
