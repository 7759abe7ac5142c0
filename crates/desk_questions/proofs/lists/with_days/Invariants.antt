use Rattle.std.proofs.Common.{◌≡◌, map}
use Rattle.desk_model.specs.Queries.{open_duty}
use Rattle.desk_questions.specs.Lists.{changes_found}
use Rattle.desk_access.specs.Seen.{OfRows}
use Rattle.desk_wanting.proofs.SoFar.{SoFar}
use Rattle.desk_questions.proofs.lists.with_days.Given as goal

abbrev pub invariant-loop-row : goal.invariant-loop-row
invariant-loop-row g l =
    SoFar
    (OfRows (λ t. l.duties.items ≡ map (open_duty (changes_found t)) l.yielded))
    (g.S.Store.seen l.fn.store) (g.S.Store.seen l.store)
