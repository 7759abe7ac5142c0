use Rattle.std.proofs.Common.{◌≡◌, false, map, take}
use Rattle.std.specs.List.{All}
use Rattle.clap.specs.Words.{rule_of}
use Rattle.desk_line.specs.Rows.{rule_at}
use Rattle.desk_line.proofs.arguments.args.Given as goal

abbrev pub invariant-loop-row : goal.invariant-loop-row
invariant-loop-row l = record {
  rules : map rule_of l.args.items ≡ map rule_at (take l.row-index l.rows);
  local : All (λ arg. arg.global ≡ false) l.args.items;
}
