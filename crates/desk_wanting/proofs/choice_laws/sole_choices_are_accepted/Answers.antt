use Rattle.desk_wanting.proofs.Accepted.{accepted}
use Rattle.desk_wanting.proofs.choice_laws.sole_choices_are_accepted.Goals as goal

pub returns : goal.returns
returns c = λ w t r choices one lists finds e m. accepted w t r lists finds choices one e m
