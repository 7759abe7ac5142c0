use Rattle.std.proofs.Common.{◌≡◌, map}
use Rattle.desk_model.specs.Readings.{Readings}
use Rattle.desk_access.specs.Seen.{OfRows}
use Rattle.desk_wanting.proofs.SoFar.{SoFar}
use Rattle.desk_bills.specs.Lacking.{needed_of}
use Rattle.desk_bills.proofs.needed.needed_for.Given as goal

abbrev pub invariant-loop-row : goal.invariant-loop-row
invariant-loop-row g l =
    SoFar
    (λ old new. (w : Readings) → g.T.Texts.are_right w
    → OfRows (λ t. l.needed.items ≡ map (needed_of w t l.release) l.yielded) old new)
    (g.S.Store.seen l.fn.store) (g.S.Store.seen l.store)
