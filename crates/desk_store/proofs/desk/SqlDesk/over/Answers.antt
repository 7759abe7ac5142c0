use Rattle.desk_store.proofs.desk.SqlDesk.over.Goals as goal

pub returns-clause-holds : goal.returns-clause-holds
returns-clause-holds g c = λ t known kept held. rw c.over.ensures
    (c.over-store.ensures.holds t known kept held)
