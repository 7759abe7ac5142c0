use Rattle.std.proofs.Common.{◌≡◌, map}
use Rattle.desk_model.specs.Readings.{Readings}
use Rattle.desk_model.specs.Queries.{package_line}
use Rattle.desk_history.specs.FromTables.{choice_found, conclusion_found}
use Rattle.desk_access.specs.Seen.{OfRows}
use Rattle.desk_wanting.proofs.SoFar.{SoFar}
use Rattle.desk_questions.proofs.packages.package_lines.Given as goal

abbrev pub invariant-loop-row : goal.invariant-loop-row
invariant-loop-row g l =
    SoFar
    (λ old new. (w : Readings) → g.T.Texts.are_right w
    → OfRows (λ t. l.lines ≡ map (package_line (conclusion_found w t) (choice_found t l.release))
    l.yielded) old new)
    (g.S.Store.seen l.fn.store) (g.S.Store.seen l.store)
