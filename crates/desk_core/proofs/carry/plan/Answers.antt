use Rattle.desk_core.proofs.carry.plan.Goals as goal

pub returns-in-OpenRelease-clause-alone : goal.returns-in-OpenRelease-clause-alone
returns-in-OpenRelease-clause-alone g c = λ w right. rw c.in-OpenRelease.is
    (c.open_release.ensures.alone w)

pub returns-in-Attach-clause-plan : goal.returns-in-Attach-clause-plan
returns-in-Attach-clause-plan g c = λ w right. rw c.in-Attach.is (c.attach.ensures.plan w)

pub returns-in-Choose-clause-plan : goal.returns-in-Choose-clause-plan
returns-in-Choose-clause-plan g c = λ w right. rw c.in-Choose.is (c.choose.ensures.plan w right)

pub returns-in-Meet-clause-plan : goal.returns-in-Meet-clause-plan
returns-in-Meet-clause-plan g c = λ w right. rw c.in-Meet.is (c.meet.ensures.plan w)

pub returns-in-Meet-clause-alone : goal.returns-in-Meet-clause-alone
returns-in-Meet-clause-alone g c = λ w right. rw c.in-Meet.is (c.meet.ensures.alone w)

pub returns-in-Waive-clause-plan : goal.returns-in-Waive-clause-plan
returns-in-Waive-clause-plan g c = λ w right. rw c.in-Waive.is (c.waive.ensures.plan w)

pub returns-in-Waive-clause-alone : goal.returns-in-Waive-clause-alone
returns-in-Waive-clause-alone g c = λ w right. rw c.in-Waive.is (c.waive.ensures.alone w)

pub returns-in-Reopen-clause-plan : goal.returns-in-Reopen-clause-plan
returns-in-Reopen-clause-plan g c = λ w right. rw c.in-Reopen.is (c.reopen.ensures.plan w)

pub returns-in-Reopen-clause-alone : goal.returns-in-Reopen-clause-alone
returns-in-Reopen-clause-alone g c = λ w right. rw c.in-Reopen.is (c.reopen.ensures.alone w)

pub returns-in-Withdraw-clause-plan : goal.returns-in-Withdraw-clause-plan
returns-in-Withdraw-clause-plan g c = λ w right. rw c.in-Withdraw.is (c.withdraw.ensures.plan w)

pub returns-in-Withdraw-clause-alone : goal.returns-in-Withdraw-clause-alone
returns-in-Withdraw-clause-alone g c = λ w right. rw c.in-Withdraw.is (c.withdraw.ensures.alone w)

pub returns-in-CloseDay-clause-plan : goal.returns-in-CloseDay-clause-plan
returns-in-CloseDay-clause-plan g c = λ w right. rw c.in-CloseDay.is (c.close_day.ensures.plan w)

pub returns-in-CloseDay-clause-alone : goal.returns-in-CloseDay-clause-alone
returns-in-CloseDay-clause-alone g c = λ w right. rw c.in-CloseDay.is (c.close_day.ensures.alone w)
