use Rattle.std.proofs.Common.{◌≡◌, ◌++◌, drop}
use Rattle.std.specs.List.{filter_map}
use Rattle.desk_model.specs.Readings.{Readings}
use Rattle.desk_model.specs.Answers.{unadopted}
use Rattle.desk_access.specs.Seen.{OfRows}
use Rattle.desk_wanting.proofs.SoFar.{SoFar}
use Rattle.desk_wanting.proofs.term.add_unadopted.Given as goal

abbrev pub invariant-loop-term : goal.invariant-loop-term
invariant-loop-term g l =
    SoFar
    (λ old new. (w : Readings) → g.T.Texts.are_right w
    → OfRows (λ t. l.refusals.items
    ++ filter_map (unadopted w t.adoption l.document) (drop l.term-index l.terms)
    ≡ l.fn.refusals.items ++ filter_map (unadopted w t.adoption l.document) l.terms) old new)
    (g.S.Store.seen l.fn.store) (g.S.Store.seen l.store)
