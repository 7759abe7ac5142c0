use Rattle.desk_views.specs.Showing.{Asks, shown}
use Rattle.desk_subcommands.proofs.FilingLemmas.{answered, failed}
use Rattle.desk_views.proofs.showing.show.Goals as goal

pub returns-clause-done : goal.returns-clause-done
returns-clause-done g c = answered
    (Asks g.D.Desk.are_right g.D.Desk.tells g.D.Desk.stands c.args.query.now
    (g.D.Desk.seen c.args.desk.now) (g.D.Desk.seen c.ask_desk-outcome.new.desk))
    (shown c.args.is_terminal) (g.W.Write.contents c.args.writer.now)
    (g.W.Write.contents c.write_outcome-told.new.writer) c.ask_desk-outcome.result
    c.write_outcome-told.result c.ask_desk-outcome.ensures c.write_outcome-told.ensures.done

pub returns-clause-failed : goal.returns-clause-failed
returns-clause-failed g c = failed
    (Asks g.D.Desk.are_right g.D.Desk.tells g.D.Desk.stands c.args.query.now
    (g.D.Desk.seen c.args.desk.now) (g.D.Desk.seen c.ask_desk-outcome.new.desk))
    (shown c.args.is_terminal) (g.W.Write.contents c.args.writer.now)
    (g.W.Write.contents c.write_outcome-told.new.writer) c.ask_desk-outcome.result
    c.write_outcome-told.result c.ask_desk-outcome.ensures c.write_outcome-told.ensures.failed
