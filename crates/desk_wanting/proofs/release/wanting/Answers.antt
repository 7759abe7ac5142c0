use Rattle.desk_wanting.proofs.Looks.{looked_after}
use Rattle.desk_wanting.proofs.release.wanting.Goals as goal

pub returns-clause-kept : goal.returns-clause-kept
returns-clause-kept g c = looked_after _ _ _ c.open_wanting.result c.in_ok-row.ensures.kept
    c.open_wanting.ensures.kept
