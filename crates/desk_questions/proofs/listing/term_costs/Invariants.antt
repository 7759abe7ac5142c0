use Rattle.std.proofs.Common.{◌≡◌, map, take}
use Rattle.desk_model.specs.Readings.{Readings}
use Rattle.desk_model.specs.Listings.{term_cost}
use Rattle.desk_history.specs.FromTables.{rules_found}
use Rattle.desk_access.specs.Seen.{OfRows}
use Rattle.desk_wanting.proofs.SoFar.{SoFar}
use Rattle.desk_questions.proofs.listing.term_costs.Given as goal

abbrev pub invariant-loop-term : goal.invariant-loop-term
invariant-loop-term g l =
    SoFar
    (λ old new. (w : Readings) → g.T.Texts.are_right w
    → OfRows (λ t. l.costs.items ≡ map (term_cost w t.adoption (rules_found t) l.form l.document)
    (take l.term-index l.terms)) old new)
    (g.S.Store.seen l.fn.store) (g.S.Store.seen l.store)
