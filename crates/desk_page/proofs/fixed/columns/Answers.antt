use Rattle.std.proofs.Common.{refl}
use Rattle.desk_page.specs.Fixed.{columns}
use Rattle.desk_page.proofs.fixed.columns.Goals as goal

pub returns-in-Licences : goal.returns-in-Licences
unfolding columns
returns-in-Licences c = rw c.in-Licences.is refl
