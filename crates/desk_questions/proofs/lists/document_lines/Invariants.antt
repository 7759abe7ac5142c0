use Rattle.std.proofs.Common.{◌≡◌, map}
use Rattle.desk_questions.specs.Lists.{head_line}
use Rattle.desk_access.specs.Seen.{OfRows}
use Rattle.desk_wanting.proofs.SoFar.{SoFar}
use Rattle.desk_questions.proofs.lists.document_lines.Given as goal

abbrev pub invariant-loop-head : goal.invariant-loop-head
invariant-loop-head g l =
    SoFar
    (OfRows (λ t. l.lines ≡ map (head_line t) l.yielded))
    (g.S.Store.seen l.fn.store) (g.S.Store.seen l.store)
