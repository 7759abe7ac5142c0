use Rattle.std.proofs.Common.{◌≡◌, ◌++◌, drop}
use Rattle.std.specs.String.{string_bytes}
use Rattle.desk_page.specs.Rows.{waiver_rows}
use Rattle.desk_page.proofs.duties.add_waivers.Given as goal

-- together with the rows of what is left, these are all rows
abbrev pub invariant-loop-steps : goal.invariant-loop-steps
invariant-loop-steps l = string_bytes l.text ++ waiver_rows l.rest (drop l.steps-index l.changes)
    ≡ string_bytes l.initial.text ++ waiver_rows l.fn.duties l.changes
