-- what isn't left of the bytes is written
use Rattle.std.proofs.Common.{◌≡◌, ℕ, List, ◌++◌}
use Rattle.std.specs.Io.KnownBytes.{Appends}
use Rattle.desk_script.proofs.serving.write_bytes.Given as goal

abbrev pub invariant-loop : goal.invariant-loop
invariant-loop g l = record {
  front : List ℕ;
  cut : l.bytes ≡ front ++ l.rest;
  written : Appends (g.W.Write.contents l.fn.writer) (g.W.Write.contents l.writer) front;
}
