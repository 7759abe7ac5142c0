use Rattle.desk_core.proofs.AtHistory.{asks_at}
use Rattle.desk_core.proofs.desk.TableDeskDesk.ask.Goals as goal

pub returns-clause-answer : goal.returns-clause-answer
returns-clause-answer g c =
    asks_at g.T.Texts.are_right c.args.query.now (g.S.Store.seen c.args.self.now.store)
    (g.S.Store.seen c.answer_to.new.store) c.answer_to.result c.answer_to.ensures.answer
