use Rattle.std.proofs.Common.{◌++◌, List, map, take}
use Rattle.desk_fill.specs.Subjects.{Entry, Indexes, text_entry}
use Rattle.desk_fill.proofs.index.add_texts.Given as goal

-- those so far are there
abbrev pub invariant-loop-text : goal.invariant-loop-text
invariant-loop-text l = (entries : List Entry) → Indexes entries l.initial.index
    → Indexes (entries ++ map text_entry (take l.text-index l.texts)) l.index
