use Rattle.desk_alts.proofs.Texts.{tree_of_text}
use Rattle.desk_alts.proofs.laws.tree_or_none.Goals as goal

pub returns : goal.returns
returns c = tree_of_text
