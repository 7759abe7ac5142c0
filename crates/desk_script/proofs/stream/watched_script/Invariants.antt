use Rattle.std.proofs.Common.{◌≡◌, ◌≤◌, ◌*◌, ℕ, List, length}
use Rattle.std.specs.Prelude.{true}
use Rattle.std.specs.Io.KnownBytes.{Consumes}
use Rattle.desk_script.specs.Script.{HasServed, IsUncounted}
use Rattle.desk_script.proofs.stream.watched_script.Given as goal

abbrev pub invariant-loop-turn : goal.invariant-loop-turn
invariant-loop-turn g l = record {
  front : List ℕ;
  read : Consumes (g.R.Read.remaining l.fn.reader) (g.R.Read.remaining l.reader) front;
  served : HasServed g.D.Desk.are_right g.D.Desk.tells g.D.Desk.stands g.D.Desk.seen 1 front
      l.fn.desk l.desk (g.W.Write.contents l.fn.writer)
      (g.W.Write.contents l.writer) (record { refused = 0; failed = 0 }) l.end l.line;
  turns : l.turn ≤ length front;
  few : length front ≤ l.turn * 65536;
  refused : l.end.refused ≤ l.turn * 65536;
  failed : l.end.failed ≤ l.turn * 65536;
  still : g.V.Watch.stops l.fn.watch ≡ true
      → IsUncounted (record { refused = 0; failed = 0 }) l.end;
  same : g.V.Watch.stops l.watch ≡ g.V.Watch.stops l.fn.watch;
}
