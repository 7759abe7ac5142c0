use Rattle.desk_questions.proofs.ask.answer_to.Goals as goal

pub returns-in-Duties-clause-answer : goal.returns-in-Duties-clause-answer
returns-in-Duties-clause-answer g c = λ w right. rw c.in-Duties.is (c.duties.ensures.answer w)

pub returns-in-Totals-clause-answer : goal.returns-in-Totals-clause-answer
returns-in-Totals-clause-answer g c = λ w right. rw c.in-Totals.is (c.totals.ensures.answer w)

pub returns-in-Changes-clause-answer : goal.returns-in-Changes-clause-answer
returns-in-Changes-clause-answer g c = λ w right. rw c.in-Changes.is (c.changes.ensures.answer w)

pub returns-in-Findings-clause-answer : goal.returns-in-Findings-clause-answer
returns-in-Findings-clause-answer g c = λ w right. rw c.in-Findings.is
    (c.findings.ensures.answer w right)

pub returns-in-Cheapest-clause-answer : goal.returns-in-Cheapest-clause-answer
returns-in-Cheapest-clause-answer g c = λ w right. rw c.in-Cheapest.is
    (c.cheapest.ensures.answer w right)

pub returns-in-Releases-clause-answer : goal.returns-in-Releases-clause-answer
returns-in-Releases-clause-answer g c = λ w right. rw c.in-Releases.is (c.releases.ensures.answer w)

pub returns-in-Documents-clause-answer : goal.returns-in-Documents-clause-answer
returns-in-Documents-clause-answer g c = λ w right. rw c.in-Documents.is
    (c.documents.ensures.answer w)

pub returns-in-OpenDuties-clause-answer : goal.returns-in-OpenDuties-clause-answer
returns-in-OpenDuties-clause-answer g c = λ w right. rw c.in-OpenDuties.is
    (c.open_duties.ensures.answer w)

pub returns-in-Ready-clause-answer : goal.returns-in-Ready-clause-answer
returns-in-Ready-clause-answer g c = λ w right. rw c.in-Ready.is (c.ready.ensures.answer w)

pub returns-in-Gaps-clause-answer : goal.returns-in-Gaps-clause-answer
returns-in-Gaps-clause-answer g c = λ w right. rw c.in-Gaps.is (c.gaps.ensures.answer w right)
