use Rattle.std.proofs.Common.{◌≡◌, drop}
use Rattle.desk_line.specs.Rows.{kind_named}
use Rattle.desk_line.proofs.subcommands.kind_named.Given as goal

abbrev pub invariant-loop-row : goal.invariant-loop-row
invariant-loop-row l = kind_named l.name (drop l.row-index l.rows) ≡ kind_named l.name l.rows
