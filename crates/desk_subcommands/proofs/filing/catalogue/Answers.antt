use Rattle.desk_model.specs.declared.command.Command.TheVariants.{LoadCatalogue}
use Rattle.desk_model.specs.declared.command.Outcome.TheVariants.{Answered}
use Rattle.desk_subcommands.specs.Filing.{Comes, outcome_line}
use Rattle.desk_subcommands.proofs.FilingLemmas.{answered, failed}
use Rattle.desk_subcommands.proofs.filing.catalogue.Goals as goal

pub returns-clause-done : goal.returns-clause-done
returns-clause-done g c = answered
    (Comes g.D.Desk.are_right g.D.Desk.tells g.D.Desk.stands (LoadCatalogue c.args.text)
    (g.D.Desk.seen c.args.desk.now) (g.D.Desk.seen c.load_text-outcome.new.desk))
    (λ answer. outcome_line (Answered answer)) (g.W.Write.contents c.args.writer.now)
    (g.W.Write.contents c.answer.new.writer) c.load_text-outcome.result c.answer.result
    c.load_text-outcome.ensures c.answer.ensures.done

pub returns-clause-failed : goal.returns-clause-failed
returns-clause-failed g c = failed
    (Comes g.D.Desk.are_right g.D.Desk.tells g.D.Desk.stands (LoadCatalogue c.args.text)
    (g.D.Desk.seen c.args.desk.now) (g.D.Desk.seen c.load_text-outcome.new.desk))
    (λ answer. outcome_line (Answered answer)) (g.W.Write.contents c.args.writer.now)
    (g.W.Write.contents c.answer.new.writer) c.load_text-outcome.result c.answer.result
    c.load_text-outcome.ensures c.answer.ensures.failed
