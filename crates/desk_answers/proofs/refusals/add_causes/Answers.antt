use Rattle.std.proofs.Common.{◌++◌}
use Rattle.std.specs.List.{flat_map}
use Rattle.desk_lists.proofs.Lists.{whole}
use Rattle.desk_answers.specs.Refusals.{cause_line}
use Rattle.desk_answers.proofs.Causes.{added_at}
use Rattle.desk_answers.proofs.refusals.add_causes.Goals as goal

pub loop-entry-preserved : goal.loop-entry-preserved
loop-entry-preserved c =
    added_at (cause_line c.args.subject) c.args.entries.now c.loop-entry.entry-index _
    c.args.text.now.items c.loop-entry.text.items
    c.add_cause.new.text.items c.loop-entry-test.true c.loop-entry.invariant
    c.in_ok-add_cause.ensures

pub returns : goal.returns
returns c =
    whole (λ entries. c.args.text.now.items ++ flat_map (cause_line c.args.subject) entries)
    c.args.entries.now c.loop-entry.entry-index c.loop-entry.text.items
    c.loop-entry-test.false c.loop-entry.invariant
