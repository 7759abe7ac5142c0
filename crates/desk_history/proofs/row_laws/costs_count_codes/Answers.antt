use Rattle.desk_history.proofs.Lines.{few_codes, many_codes, no_codes}
use Rattle.desk_history.proofs.row_laws.costs_count_codes.Goals as goal

pub returns : goal.returns
returns c = record { few = few_codes; many = many_codes; none = no_codes }
