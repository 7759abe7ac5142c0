use Rattle.std.specs.Prelude.{map}
use Rattle.desk_tokens.specs.Tokens.{lexeme}
use Rattle.desk_expr.specs.Progress.{HasRead}
use Rattle.desk_expr.proofs.ParseLemmas.{SoFar}
use Rattle.desk_expr.proofs.progress.parse_in.Given as goal

abbrev pub invariant-loop-token : goal.invariant-loop-token
invariant-loop-token l = record {
  read : HasRead (map lexeme l.yielded) l.progress;
  so_far : SoFar l.fn.profile l.text l.yielded l.token-iterator;
}
