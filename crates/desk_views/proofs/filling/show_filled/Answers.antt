use Rattle.desk_views.specs.Filling.{filled_text}
use Rattle.desk_views.specs.Showing.{Asks}
use Rattle.desk_subcommands.proofs.FilingLemmas.{failed}
use Rattle.desk_views.proofs.FillingLemmas.{told_filled}
use Rattle.desk_views.proofs.filling.show_filled.Goals as goal

pub returns-clause-done : goal.returns-clause-done
returns-clause-done g c = told_filled c.args.filling.fills.now c.args.filling.style
    (g.W.Write.contents c.args.writer.now) (g.W.Write.contents c.write_filled.new.writer)
    (Asks g.D.Desk.are_right g.D.Desk.tells g.D.Desk.stands c.args.query.now
    (g.D.Desk.seen c.args.desk.now) (g.D.Desk.seen c.ask_desk-outcome.new.desk))
    c.ask_desk-outcome.result c.write_filled.result c.ask_desk-outcome.ensures
    c.write_filled.ensures.done

pub returns-clause-failed : goal.returns-clause-failed
returns-clause-failed g c = failed
    (Asks g.D.Desk.are_right g.D.Desk.tells g.D.Desk.stands c.args.query.now
    (g.D.Desk.seen c.args.desk.now) (g.D.Desk.seen c.ask_desk-outcome.new.desk))
    (filled_text c.args.filling.fills.now c.args.filling.style)
    (g.W.Write.contents c.args.writer.now) (g.W.Write.contents c.write_filled.new.writer)
    c.ask_desk-outcome.result c.write_filled.result c.ask_desk-outcome.ensures
    c.write_filled.ensures.failed
