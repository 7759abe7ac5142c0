use Rattle.desk_catalogue.proofs.Counted.{all_kept}
use Rattle.desk_catalogue.proofs.laws.each_table_is_kept.Goals as goal

pub returns : goal.returns
returns c = all_kept
