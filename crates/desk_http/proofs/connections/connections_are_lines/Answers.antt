use Rattle.desk_http.proofs.AsLines.{AreServed-of}
use Rattle.desk_http.proofs.connections.connections_are_lines.Goals as goal

pub returns : goal.returns
returns g c = λ before connections after answered. AreServed-of g.D.Desk.are_right g.D.Desk.tells
    g.D.Desk.stands g.D.Desk.seen before connections after answered
