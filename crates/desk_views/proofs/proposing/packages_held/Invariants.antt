use Rattle.std.proofs.Common.{◌≡◌, map, take}
use Rattle.desk_tagvalue.specs.Views.{package_text}
use Rattle.desk_views.specs.Proposing.{with_conclusion}
use Rattle.desk_views.proofs.proposing.packages_held.Given as goal

-- each package before the index
abbrev pub invariant-loop-text : goal.invariant-loop-text
invariant-loop-text l = map package_text l.held.items
    ≡ map (λ text. with_conclusion l.snapshot l.document (package_text text))
    (take l.text-index l.packages)
