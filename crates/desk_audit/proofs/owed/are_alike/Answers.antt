use Rattle.std.proofs.Common.{sym}
use Rattle.desk_audit.proofs.OwedOrders.{uneven}
use Rattle.desk_audit.proofs.owed.are_alike.Goals as goal

pub returns-then-owed-duties : goal.returns-then-owed-duties
returns-then-owed-duties c = sym (uneven c.args.owed.now c.args.duties.now c.if-owed-duties.true)
