use Rattle.desk_subcommands.proofs.ReportLemmas.{stops_with}
use Rattle.desk_subcommands.proofs.ListingLemmas.{listing_reported}
use Rattle.desk_subcommands.proofs.listing.list.Goals as goal

pub returns-in-Ok : goal.returns-in-Ok
returns-in-Ok c = listing_reported c.args.profile c.args.expression.now c.in-Ok.tree
    c.listing_of.result
    c.in-Ok.ensures.spelled c.listing_of.ensures

pub returns-in_ok-unless_memory-in-Err : goal.returns-in_ok-unless_memory-in-Err
returns-in_ok-unless_memory-in-Err c = stops_with c.args.profile c.args.expression.now
    c.in-Err.fault
    c.in_ok-unless_memory-in-Err.field-0 c.in_ok-unless_memory-in-Err.ensures.same
    c.in_ok-unless_memory-in-Err.ensures.text
    c.in-Err.ensures.stop c.in-Err.ensures.complete
