use Rattle.desk_audit.proofs.Firsts.{sound, unsound}
use Rattle.desk_audit.proofs.judge.Goals as goal

pub returns-in-Some : goal.returns-in-Some
returns-in-Some c = λ w right. unsound w c.args.snapshot.now c.in-Some.fault
    (rw c.in-Some.is at (c.in_ok-found.ensures w right))

pub returns-in-None : goal.returns-in-None
returns-in-None c = λ w right. sound w c.args.snapshot.now
    (rw c.in-None.is at (c.in_ok-found.ensures w right))
