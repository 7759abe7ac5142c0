use Rattle.desk_catalogue.proofs.TermsRead.{terms_read}
use Rattle.desk_catalogue.proofs.laws.terms_are_read.Goals as goal

pub returns : goal.returns
returns c = terms_read
