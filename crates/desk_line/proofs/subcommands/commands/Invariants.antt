use Rattle.std.proofs.Common.{◌≡◌, false, map, take}
use Rattle.std.specs.List.{All}
use Rattle.clap.specs.Words.{shape_of}
use Rattle.clap.specs.declared.builder.command.Command.TheViews.{out-Command}
use Rattle.desk_line.specs.Rows.{row_shape}
use Rattle.desk_line.proofs.subcommands.commands.Given as goal

abbrev pub invariant-loop-row : goal.invariant-loop-row
invariant-loop-row l = record {
  shapes : map shape_of l.commands.items ≡ map row_shape (take l.row-index l.rows);
  local : All (λ c. (out-Command c).has_globals ≡ false) l.commands.items;
}
