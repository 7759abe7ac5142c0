use Rattle.std.proofs.Common.{◌≡◌, ◌++◌, drop}
use Rattle.std.specs.List.{filter_map}
use Rattle.desk_model.specs.Readings.{Readings}
use Rattle.desk_access.specs.Seen.{OfRows}
use Rattle.desk_wanting.specs.Sole.{sole_choice_found}
use Rattle.desk_wanting.proofs.SoFar.{SoFar}
use Rattle.desk_wanting.proofs.sole_choice.sole_choices_for.Given as goal

abbrev pub invariant-loop-row : goal.invariant-loop-row
invariant-loop-row g l =
    SoFar
    (λ old new. (w : Readings) → g.T.Texts.are_right w
    → OfRows (λ t. l.choices.items
    ++ filter_map (sole_choice_found w t l.release) (drop l.row-index l.packages)
    ≡ filter_map (sole_choice_found w t l.release) l.packages) old new)
    (g.S.Store.seen l.fn.store) (g.S.Store.seen l.store)
