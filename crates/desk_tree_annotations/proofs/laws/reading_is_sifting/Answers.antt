use Rattle.desk_tree_annotations.specs.Reading.{entries}
use Rattle.desk_tree_annotations.proofs.SiftLemmas.{agrees_in}
use Rattle.desk_tree_annotations.proofs.laws.reading_is_sifting.Goals as goal

pub returns : goal.returns
returns c = λ r text. agrees_in r (entries text)
