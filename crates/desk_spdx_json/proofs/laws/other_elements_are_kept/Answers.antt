use Rattle.std.proofs.Common.{refl}
use Rattle.desk_spdx_json.proofs.FileLaws.{package_stays}
use Rattle.desk_spdx_json.proofs.laws.other_elements_are_kept.Goals as goal

pub returns-clause-snippets : goal.returns-clause-snippets
returns-clause-snippets c = λ d at. refl

pub returns-clause-licences : goal.returns-clause-licences
returns-clause-licences c = λ d at. refl

pub returns-clause-packages : goal.returns-clause-packages
returns-clause-packages c = package_stays
