use Rattle.desk_tree_document.proofs.Ships.{ships_draft}
use Rattle.desk_tree_document.proofs.laws.drafts_ship.Goals as goal

pub returns : goal.returns
returns c = ships_draft
