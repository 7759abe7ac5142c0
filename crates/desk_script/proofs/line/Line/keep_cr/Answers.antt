use Rattle.desk_script.proofs.Gathering.{HasCome-whole}
use Rattle.desk_script.proofs.line.Line.keep_cr.Goals as goal

pub returns-else-self-clause-came : goal.returns-else-self-clause-came
returns-else-self-clause-came c = λ came h. HasCome-whole c.args.self.now came h c.if-self.false
