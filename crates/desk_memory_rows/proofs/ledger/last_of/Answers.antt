use Rattle.desk_memory_rows.proofs.Days.{last_or-none}
use Rattle.desk_memory_rows.proofs.ledger.last_of.Goals as goal

pub loop-row-init : goal.loop-row-init
loop-row-init c = last_or-none c.args.rows.now
