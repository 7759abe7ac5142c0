use Rattle.desk_json.specs.Requests.{request_in}
use Rattle.desk_script.proofs.OneLine.{Replies-memory}
use Rattle.desk_script.proofs.answer.answer_line.Goals as goal

pub returns-in-Err-clause-replies : goal.returns-in-Err-clause-replies
returns-in-Err-clause-replies g c = Replies-memory g.D.Desk.are_right g.D.Desk.tells g.D.Desk.stands
    (g.D.Desk.seen c.args.desk.now) (request_in c.args.text.items)
