use Rattle.std.proofs.Common.{◌≡◌, ◌++◌, replicate}
use Rattle.desk_report.proofs.columns.add_blanks.Given as goal

-- this many blanks so far
abbrev pub invariant-loop : goal.invariant-loop
invariant-loop l = l.text.items ≡ l.initial.text.items ++ replicate l.counter 32
