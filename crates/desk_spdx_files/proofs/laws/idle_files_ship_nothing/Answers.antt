use Rattle.desk_spdx_files.proofs.IdleIds.{is_no_described, is_not_described, ships_no_left, ships_no_right}
use Rattle.desk_spdx_files.proofs.laws.idle_files_ship_nothing.Goals as goal

pub returns-clause-right : goal.returns-clause-right
returns-clause-right c = ships_no_right

pub returns-clause-left : goal.returns-clause-left
returns-clause-left c = ships_no_left

pub returns-clause-describes : goal.returns-clause-describes
returns-clause-describes c = is_no_described

pub returns-clause-described : goal.returns-clause-described
returns-clause-described c = is_not_described
