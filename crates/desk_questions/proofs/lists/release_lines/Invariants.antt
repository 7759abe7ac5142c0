use Rattle.std.proofs.Common.{◌≡◌, map}
use Rattle.desk_questions.specs.Lists.{counted_line}
use Rattle.desk_access.specs.Seen.{OfRows}
use Rattle.desk_wanting.proofs.SoFar.{SoFar}
use Rattle.desk_questions.proofs.lists.release_lines.Given as goal

abbrev pub invariant-loop-row : goal.invariant-loop-row
invariant-loop-row g l =
    SoFar
    (OfRows (λ t. l.lines ≡ map (counted_line t) l.yielded))
    (g.S.Store.seen l.fn.store) (g.S.Store.seen l.store)
