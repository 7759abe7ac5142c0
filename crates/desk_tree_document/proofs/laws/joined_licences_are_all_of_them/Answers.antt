use Rattle.std.proofs.Common.{refl}
use Rattle.desk_tree_document.proofs.Joining.{joined_read, joined_spells}
use Rattle.desk_tree_document.proofs.laws.joined_licences_are_all_of_them.Goals as goal

pub returns : goal.returns
returns c = record { one = λ licence. refl; several = joined_spells; read = joined_read }
