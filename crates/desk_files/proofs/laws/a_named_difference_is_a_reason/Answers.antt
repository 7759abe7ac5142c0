use Rattle.desk_files.proofs.Reasons.{of_desk, of_older}
use Rattle.desk_files.proofs.laws.a_named_difference_is_a_reason.Goals as goal

pub returns-clause-desk : goal.returns-clause-desk
returns-clause-desk c = of_desk

pub returns-clause-older : goal.returns-clause-older
returns-clause-older c = of_older
