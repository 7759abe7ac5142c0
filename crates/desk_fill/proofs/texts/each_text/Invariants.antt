use Rattle.std.proofs.Common.{◌≡◌, [], length, map}
use Rattle.toml.specs.View.{items_view}
use Rattle.desk_fill.specs.Reading.{each, with_text}
use Rattle.desk_fill.specs.Subjects.{Knows, subject_of_text}
use Rattle.desk_fill.proofs.texts.each_text.Given as goal

-- the texts so far, with those of the rest, are those of all, and what they are for is known
abbrev pub invariant-loop-value : goal.invariant-loop-value
invariant-loop-value l = (each with_text l.texts (length l.texts)
    (items_view l.value-iterator.rest.items) ≡ each with_text [] 0 (items_view l.fn.values.items))
    × Knows (map subject_of_text l.texts) l.firsts
