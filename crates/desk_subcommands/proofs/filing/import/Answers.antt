use Rattle.desk_model.specs.declared.command.Command.TheVariants.{Import}
use Rattle.desk_model.specs.declared.command.Outcome.TheVariants.{Answered}
use Rattle.desk_subcommands.specs.Filing.{Comes, outcome_line}
use Rattle.desk_subcommands.proofs.FilingLemmas.{answered, failed}
use Rattle.desk_subcommands.proofs.filing.import.Goals as goal

pub returns-clause-done : goal.returns-clause-done
returns-clause-done g c = answered
    (Comes g.D.Desk.are_right g.D.Desk.tells g.D.Desk.stands (Import c.args.bytes c.args.profile)
    (g.D.Desk.seen c.args.desk.now) (g.D.Desk.seen c.import_bytes-outcome.new.desk))
    (λ answer. outcome_line (Answered answer)) (g.W.Write.contents c.args.writer.now)
    (g.W.Write.contents c.answer-told.new.writer) c.import_bytes-outcome.result c.answer-told.result
    c.import_bytes-outcome.ensures c.answer-told.ensures.done

pub returns-clause-failed : goal.returns-clause-failed
returns-clause-failed g c = failed
    (Comes g.D.Desk.are_right g.D.Desk.tells g.D.Desk.stands (Import c.args.bytes c.args.profile)
    (g.D.Desk.seen c.args.desk.now) (g.D.Desk.seen c.import_bytes-outcome.new.desk))
    (λ answer. outcome_line (Answered answer)) (g.W.Write.contents c.args.writer.now)
    (g.W.Write.contents c.answer-told.new.writer) c.import_bytes-outcome.result c.answer-told.result
    c.import_bytes-outcome.ensures c.answer-told.ensures.failed
