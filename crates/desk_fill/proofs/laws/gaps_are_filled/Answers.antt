use Rattle.desk_fill.proofs.FillLemmas.{credit_filled, text_filled}
use Rattle.desk_fill.proofs.laws.gaps_are_filled.Goals as goal

pub returns-clause-credit : goal.returns-clause-credit
returns-clause-credit c = credit_filled

pub returns-clause-text : goal.returns-clause-text
returns-clause-text c = text_filled
