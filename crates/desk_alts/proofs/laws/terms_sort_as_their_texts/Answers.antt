use Rattle.desk_alts.proofs.Order.{texts_sort}
use Rattle.desk_alts.proofs.laws.terms_sort_as_their_texts.Goals as goal

pub returns : goal.returns
returns c = texts_sort
