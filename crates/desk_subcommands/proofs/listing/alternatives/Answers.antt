use Rattle.desk_subcommands.proofs.ListingLemmas.{lists_once}
use Rattle.desk_subcommands.proofs.listing.alternatives.Goals as goal

pub returns-in_err-listing-clause-once : goal.returns-in_err-listing-clause-once
returns-in_err-listing-clause-once g c = lists_once c.args.profile c.args.expression.now

pub returns-in_err-text-clause-once : goal.returns-in_err-text-clause-once
returns-in_err-text-clause-once g c = lists_once c.args.profile c.args.expression.now

pub returns-in_err-write_all-clause-once : goal.returns-in_err-write_all-clause-once
returns-in_err-write_all-clause-once g c = lists_once c.args.profile c.args.expression.now

pub returns-in_err-flush-clause-once : goal.returns-in_err-flush-clause-once
returns-in_err-flush-clause-once g c = lists_once c.args.profile c.args.expression.now

pub returns-clause-once : goal.returns-clause-once
returns-clause-once g c = lists_once c.args.profile c.args.expression.now
