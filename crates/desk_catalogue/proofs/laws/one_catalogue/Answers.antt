use Rattle.desk_catalogue.proofs.TermsRead.{one_catalogue as law}
use Rattle.desk_catalogue.proofs.laws.one_catalogue.Goals as goal

pub returns : goal.returns
returns c = law
