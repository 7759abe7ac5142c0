use Rattle.std.specs.Prelude.{map}
use Rattle.desk_tokens.specs.Tokens.{lexeme}
use Rattle.desk_expr.proofs.ParseLemmas.{SoFar}
use Rattle.desk_expr.proofs.TermLemmas.{TermRead}
use Rattle.desk_expr.proofs.term_reader.parse_term_in.Given as goal

abbrev pub invariant-loop-token : goal.invariant-loop-token
invariant-loop-token l = record {
  read : TermRead (map lexeme l.yielded) l.state;
  so_far : SoFar l.fn.profile l.text l.yielded l.token-iterator;
}
