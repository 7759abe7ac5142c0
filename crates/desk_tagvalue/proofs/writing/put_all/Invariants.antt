use Rattle.std.proofs.Common.{take}
use Rattle.std.specs.Prelude.{map}
use Rattle.std.specs.String.{string_bytes}
use Rattle.desk_tagvalue.specs.Drafts.{line_text}
use Rattle.desk_tagvalue.specs.Written.{Adds}
use Rattle.desk_tagvalue.proofs.writing.put_all.Given as goal

-- the lines so far were added
abbrev pub invariant-loop-line : goal.invariant-loop-line
invariant-loop-line l = Adds (string_bytes l.fn.out) (map line_text (take l.line-index l.lines))
    (string_bytes l.out)
