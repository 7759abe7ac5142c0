use Rattle.std.proofs.Common.{◌≡◌, ◌++◌, List, map}
use Rattle.desk_fill.specs.Filling.{filled_text}
use Rattle.desk_fill.specs.Subjects.{Indexes, text_entries}
use Rattle.desk_fill.specs.declared.fill.Fill.{Fill}
use Rattle.desk_fill.proofs.filling.filled_texts.Given as goal

-- the texts so far, with those of the rest, are those of all
abbrev pub invariant-loop-text : goal.invariant-loop-text
invariant-loop-text l = (fills : List Fill) → Indexes (text_entries fills) l.index
    → l.filled.items ++ map (filled_text fills) l.text-iterator.rest.items
    ≡ map (filled_text fills) l.fn.texts
