use Rattle.std.proofs.Common.{◌≡◌, ◌++◌, drop}
use Rattle.std.specs.List.{flat_map}
use Rattle.desk_model.specs.Readings.{Readings}
use Rattle.desk_access.specs.Seen.{OfRows}
use Rattle.desk_history.specs.FromTables.{refusals_found}
use Rattle.desk_wanting.proofs.SoFar.{SoFar}
use Rattle.desk_wanting.proofs.package.refusals_of.Given as goal

abbrev pub invariant-loop-row : goal.invariant-loop-row
invariant-loop-row g l =
    SoFar
    (λ old new. (w : Readings) → g.T.Texts.are_right w
    → OfRows (λ t. l.refusals.items
    ++ flat_map (refusals_found w t l.release l.form) (drop l.row-index l.packages)
    ≡ flat_map (refusals_found w t l.release l.form) l.packages) old new)
    (g.S.Store.seen l.fn.store) (g.S.Store.seen l.store)
