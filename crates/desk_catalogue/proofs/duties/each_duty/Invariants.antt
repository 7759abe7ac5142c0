use Rattle.std.proofs.Common.{◌≡◌, drop, []}
use Rattle.toml.specs.View.{items_view}
use Rattle.desk_catalogue.specs.Reading.{each, with_duty}
use Rattle.desk_catalogue.specs.Shown.{codes_in}
use Rattle.desk_catalogue.proofs.duties.each_duty.Given as goal

-- the codes so far, with those of the rest, are those of all
abbrev pub invariant-loop-i : goal.invariant-loop-i
invariant-loop-i l = each with_duty (codes_in l.duties) l.i (items_view (drop l.i l.values))
    ≡ each with_duty [] 0 (items_view l.values)
