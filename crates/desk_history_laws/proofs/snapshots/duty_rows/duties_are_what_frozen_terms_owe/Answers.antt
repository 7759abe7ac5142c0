use Rattle.desk_history_laws.proofs.Owed.{are_duties}
use Rattle.desk_history_laws.proofs.snapshots.duty_rows.duties_are_what_frozen_terms_owe.Goals as goal

pub returns : goal.returns
returns c = are_duties c.frozen_rows_exactly.ensures.only
    (λ w h reads. c.listed_tables_are_sorted.ensures w h reads.in_order)
