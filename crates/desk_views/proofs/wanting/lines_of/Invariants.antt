use Rattle.std.proofs.Common.{◌≡◌, take}
use Rattle.std.specs.List.{flat_map}
use Rattle.desk_subcommands.specs.Filing.{outcome_line}
use Rattle.desk_views.proofs.wanting.lines_of.Given as goal

abbrev pub invariant-loop-outcome : goal.invariant-loop-outcome
invariant-loop-outcome l = l.text.items ≡ flat_map outcome_line (take l.outcome-index l.outcomes)
