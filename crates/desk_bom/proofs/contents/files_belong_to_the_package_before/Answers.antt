use Rattle.desk_bom.proofs.OwnFiles.{belongs, nobodys}
use Rattle.desk_bom.proofs.contents.files_belong_to_the_package_before.Goals as goal

pub returns : goal.returns
returns c = record { own = belongs; none = λ es. nobodys es 0 }
