-- what was read and what it awaits; each turn gave at least one byte
use Rattle.std.proofs.Common.{◌≤◌, length}
use Rattle.std.specs.Io.KnownBytes.{Consumes}
use Rattle.desk_http_head.specs.Framings.{IsAwaited}
use Rattle.desk_http.proofs.receiving.receive.Given as goal

abbrev pub invariant-loop-turn : goal.invariant-loop-turn
invariant-loop-turn g l = record {
  read : Consumes (g.R.Read.remaining l.fn.reader) (g.R.Read.remaining l.reader) l.bytes.items;
  awaits : IsAwaited l.bytes.items l.awaited;
  turns : l.turn ≤ length l.bytes.items;
}
