-- the connections so far
use Rattle.std.proofs.Common.{◌≡◌, ◌≤◌, List, length}
use Rattle.desk_http.specs.Accepting.{AreCounted}
use Rattle.desk_http.specs.Connections.{AreAnswered, Connection}
use Rattle.desk_http.proofs.accepting.serve.Given as goal

abbrev pub invariant-loop-turn : goal.invariant-loop-turn
invariant-loop-turn g l = record {
  cs : List Connection;
  count : length cs ≡ l.turn;
  few : l.failed ≤ l.turn;
  answered : AreAnswered g.D.Desk.are_right g.D.Desk.tells g.D.Desk.stands g.D.Desk.seen l.fn.desk
      cs l.desk;
  counted : AreCounted g.A.Accept.accepts g.A.Accept.ends g.A.Reader.Read.remaining
      g.A.Writer.Write.contents l.port cs l.fn.connections l.failed l.connections;
}
