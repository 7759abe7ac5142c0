use Rattle.desk_spdx_json.proofs.FileLaws.{nothing_idle}
use Rattle.desk_spdx_json.proofs.laws.needed_files_are_kept.Goals as goal

pub returns : goal.returns
returns c = nothing_idle
