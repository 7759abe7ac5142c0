use Rattle.desk_fill.proofs.FillLemmas.{line_stays, names_stay, text_stays, titles_stay}
use Rattle.desk_fill.proofs.laws.given_values_stay.Goals as goal

pub returns-clause-credit : goal.returns-clause-credit
returns-clause-credit c = line_stays

pub returns-clause-text : goal.returns-clause-text
returns-clause-text c = text_stays

pub returns-clause-others : goal.returns-clause-others
returns-clause-others c = names_stay

pub returns-clause-title : goal.returns-clause-title
returns-clause-title c = titles_stay
