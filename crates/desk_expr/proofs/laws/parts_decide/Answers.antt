use Rattle.std.specs.Prelude.{Contains}
use Rattle.desk_expr.proofs.PartLemmas.{each_part, some_part}
use Rattle.desk_expr.proofs.laws.parts_decide.Goals as goal

pub returns : goal.returns
returns c = record {
  some = λ chosen. some_part (Contains chosen);
  each = λ chosen. each_part (Contains chosen);
}
