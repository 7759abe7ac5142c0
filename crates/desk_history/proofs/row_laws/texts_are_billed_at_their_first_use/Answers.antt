use Rattle.std.proofs.Common.{refl}
use Rattle.desk_history.proofs.Lines.{add_new, add_again}
use Rattle.desk_history.proofs.row_laws.texts_are_billed_at_their_first_use.Goals as goal

pub returns : goal.returns
returns c = record { new = add_new; again = add_again; none = refl }
