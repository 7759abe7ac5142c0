use Rattle.desk_sql_lookup.proofs.runs.counts_of.Goals as goal

pub loop-number-init : goal.loop-number-init
loop-number-init c = (c.in_ok-counts.ensures.counts c.args.first, c.in_ok-counts.ensures.many)
