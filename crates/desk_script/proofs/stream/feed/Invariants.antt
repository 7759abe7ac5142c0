use Rattle.std.proofs.Common.{◌≡◌, ◌≢◌, ◌≤◌, ◌+◌, ℕ, List, ◌++◌, length}
use Rattle.std.specs.Prelude.{All, true}
use Rattle.desk_script.specs.Gathered.{Shows}
use Rattle.desk_script.specs.Script.{HasServed, IsUncounted}
use Rattle.desk_script.proofs.stream.feed.Given as goal

abbrev pub invariant-loop-text : goal.invariant-loop-text
invariant-loop-text g l = record {
  taken : List ℕ;
  cut : l.piece ≡ taken ++ l.rest;
  served : (number : ℕ) (came : List ℕ) → Shows l.fn.line came → All (λ b. b ≢ 10) came
      → HasServed g.D.Desk.are_right g.D.Desk.tells g.D.Desk.stands g.D.Desk.seen number
      (came ++ taken) l.fn.desk l.desk (g.W.Write.contents l.fn.writer)
      (g.W.Write.contents l.writer) l.fn.end l.end l.line;
  refused : l.end.refused ≤ l.fn.end.refused + length taken;
  failed : l.end.failed ≤ l.fn.end.failed + length taken;
  still : g.V.Watch.stops l.fn.watch ≡ true → IsUncounted l.fn.end l.end;
  same : g.V.Watch.stops l.watch ≡ g.V.Watch.stops l.fn.watch;
}

abbrev pub decreases-loop-text : goal.decreases-loop-text
decreases-loop-text g l = length l.rest
