use Rattle.std.proofs.Common.{[]}
use Rattle.desk_core.proofs.desk.run_in_memory.Goals as goal

pub returns-clause-answers : goal.returns-clause-answers
returns-clause-answers g c = λ w right. c.in_ok-outcomes.ensures.answers w right tt [] tt
    (c.new-desk.ensures w)

pub returns-clause-content : goal.returns-clause-content
returns-clause-content g c = λ w right. c.in_ok-outcomes.ensures.content w right tt [] tt
    (c.new-desk.ensures w)

pub returns-clause-history : goal.returns-clause-history
returns-clause-history g c = λ w right. c.in_ok-outcomes.ensures.history w right tt [] tt
    (c.new-desk.ensures w)
