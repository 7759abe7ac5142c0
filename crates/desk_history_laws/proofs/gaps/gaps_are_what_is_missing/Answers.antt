use Rattle.desk_history_laws.proofs.Missing.{copyright_only, copyright_there, listed, shipment_there}
use Rattle.desk_history_laws.proofs.gaps.gaps_are_what_is_missing.Goals as goal

pub returns-clause-listed : goal.returns-clause-listed
returns-clause-listed c = listed

pub returns-clause-copyrights : goal.returns-clause-copyrights
returns-clause-copyrights c = copyright_there

pub returns-clause-shipments : goal.returns-clause-shipments
returns-clause-shipments c = shipment_there

pub returns-clause-only : goal.returns-clause-only
returns-clause-only c = copyright_only
