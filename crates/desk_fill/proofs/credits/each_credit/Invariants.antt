use Rattle.std.proofs.Common.{◌≡◌, [], length, map}
use Rattle.toml.specs.View.{items_view}
use Rattle.desk_fill.specs.Reading.{each, with_credit}
use Rattle.desk_fill.specs.Subjects.{Knows, subject_of_credit}
use Rattle.desk_fill.proofs.credits.each_credit.Given as goal

-- the credits so far, with those of the rest, are those of all, and what they are for is known
abbrev pub invariant-loop-value : goal.invariant-loop-value
invariant-loop-value l = (each with_credit l.credits (length l.credits)
    (items_view l.value-iterator.rest.items) ≡ each with_credit [] 0 (items_view l.fn.values.items))
    × Knows (map subject_of_credit l.credits) l.firsts
