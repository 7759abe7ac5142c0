use Rattle.std.specs.Prelude.{map}
use Rattle.desk_tagvalue.specs.Views.{package_text}
use Rattle.desk_import.specs.Summaries.{standings_of}
use Rattle.desk_import.proofs.Standings.{one_more}
use Rattle.desk_import.proofs.summary.standings_of.Goals as goal

pub loop-text-preserved : goal.loop-text-preserved
loop-text-preserved c = λ reads is.
    one_more package_text reads c.args.packages.now c.loop-text.text-index _
    c.first_mark-ships.result.0 c.loop-text.rest.now c.first_mark-ships.result.1.now
    c.in_ok-standing_of.field-0 c.loop-text.found.items c.push.new.self.items
    (standings_of reads (map package_text c.args.packages.now) c.args.marks.now)
    c.loop-text-test.true c.first_mark-ships.ensures.first c.first_mark-ships.ensures.behind
    (c.in_ok-standing_of.ensures reads is) c.in_ok-push.ensures.items
    (c.loop-text.invariant reads is)
