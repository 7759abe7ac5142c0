use Rattle.std.proofs.Common.{[]}
use Rattle.std.proofs.lemmas.Result.{IfOk-weaker}
use Rattle.desk_laws.proofs.Secured.{secure_empty}
use Rattle.desk_laws.proofs.run_in_database.Goals as goal

pub returns-in-Ok-clause-answers : goal.returns-in-Ok-clause-answers
returns-in-Ok-clause-answers g c = λ w right.
    IfOk-weaker c.run-outcomes.result _ _
    (λ outcomes at clean. at w right clean [] tt
    (c.in-Ok.ensures.empty.holds (c.run-outcomes.ensures.honest clean) w))
    c.run-outcomes.ensures.answers

pub returns-in-Ok-clause-history : goal.returns-in-Ok-clause-history
returns-in-Ok-clause-history g c = λ w right.
    IfOk-weaker c.run-outcomes.result _ _
    (λ outcomes at clean. at w right clean [] tt
    (c.in-Ok.ensures.empty.holds (c.run-outcomes.ensures.honest clean) w))
    c.run-outcomes.ensures.history

pub returns-in-Ok-clause-rows : goal.returns-in-Ok-clause-rows
returns-in-Ok-clause-rows g c = λ w right.
    IfOk-weaker c.run-outcomes.result _ _
    (λ outcomes at clean. at w right clean [] tt
    (c.in-Ok.ensures.empty.holds (c.run-outcomes.ensures.honest clean) w))
    c.run-outcomes.ensures.content

pub returns-in-Ok-clause-secures : goal.returns-in-Ok-clause-secures
returns-in-Ok-clause-secures g c = λ w right.
    IfOk-weaker c.run-outcomes.result _ _
    (λ outcomes at clean all. at all w right clean [] tt
    (c.in-Ok.ensures.empty.holds (c.run-outcomes.ensures.honest clean) w)
    (secure_empty _ c.in-Ok.ensures.empty (c.run-outcomes.ensures.honest clean) w))
    c.run-outcomes.ensures.secures
