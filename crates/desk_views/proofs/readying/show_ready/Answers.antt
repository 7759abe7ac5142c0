use Rattle.desk_views.specs.Readying.{ready_text}
use Rattle.desk_views.specs.Showing.{Asks}
use Rattle.desk_subcommands.proofs.FilingLemmas.{failed}
use Rattle.desk_views.proofs.ReadyingLemmas.{told_ready}
use Rattle.desk_views.proofs.readying.show_ready.Goals as goal

pub returns-clause-done : goal.returns-clause-done
returns-clause-done g c = told_ready
    (Asks g.D.Desk.are_right g.D.Desk.tells g.D.Desk.stands c.args.query.now
    (g.D.Desk.seen c.args.desk.now) (g.D.Desk.seen c.ask_desk-outcome.new.desk))
    (ready_text c.args.is_terminal) (g.W.Write.contents c.args.writer.now)
    (g.W.Write.contents c.write_unready-told.new.writer) c.ask_desk-outcome.result
    c.write_unready-told.result c.ask_desk-outcome.ensures c.write_unready-told.ensures.done

pub returns-clause-failed : goal.returns-clause-failed
returns-clause-failed g c = failed
    (Asks g.D.Desk.are_right g.D.Desk.tells g.D.Desk.stands c.args.query.now
    (g.D.Desk.seen c.args.desk.now) (g.D.Desk.seen c.ask_desk-outcome.new.desk))
    (ready_text c.args.is_terminal) (g.W.Write.contents c.args.writer.now)
    (g.W.Write.contents c.write_unready-told.new.writer) c.ask_desk-outcome.result
    c.write_unready-told.result c.ask_desk-outcome.ensures c.write_unready-told.ensures.failed
