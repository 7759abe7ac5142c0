use Rattle.desk_import.proofs.WrittenFields.{all_written}
use Rattle.desk_import.proofs.laws.fields_have_places.Goals as goal

pub returns : goal.returns
returns c = all_written
