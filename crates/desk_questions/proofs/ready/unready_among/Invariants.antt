use Rattle.std.proofs.Common.{◌≡◌}
use Rattle.std.specs.Prelude.{filter}
use Rattle.desk_access.specs.Seen.{OfRows}
use Rattle.desk_wanting.proofs.SoFar.{SoFar}
use Rattle.desk_questions.specs.Ready.{keeps_found}
use Rattle.desk_questions.proofs.ready.unready_among.Given as goal

abbrev pub invariant-loop-row : goal.invariant-loop-row
invariant-loop-row g l =
    SoFar
    (OfRows (λ t. l.kept.items ≡ filter (keeps_found t l.day) l.yielded))
    (g.S.Store.seen l.fn.store) (g.S.Store.seen l.store)
