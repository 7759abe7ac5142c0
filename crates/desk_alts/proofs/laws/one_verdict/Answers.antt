use Rattle.desk_expr.specs.Meaning.{CanGo}
use Rattle.desk_alts.proofs.Minimal.{not_minimal_if_can_go}
use Rattle.desk_alts.proofs.Decide.{same_first}
use Rattle.desk_alts.proofs.Verdicts.{enough_if_can_go}
use Rattle.desk_alts.proofs.laws.one_verdict.Goals as goal

pub returns : goal.returns
returns c = record {
  enough = enough_if_can_go;
  needless = λ e chosen i. not_minimal_if_can_go chosen e i;
  first = λ e chosen. same_first (CanGo chosen e);
}
