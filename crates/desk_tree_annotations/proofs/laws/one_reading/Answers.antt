use Rattle.std.proofs.Common.{ap}
use Rattle.desk_tree_annotations.specs.Reading.{annotations_of}
use Rattle.desk_tree_annotations.proofs.RightLemmas.{same_reading}
use Rattle.desk_tree_annotations.proofs.laws.one_reading.Goals as goal

pub returns-clause-same : goal.returns-clause-same
returns-clause-same c = same_reading

pub returns-clause-answer : goal.returns-clause-answer
returns-clause-answer c = λ r s right other text. ap (λ x. annotations_of x text)
    (same_reading r s right other)
