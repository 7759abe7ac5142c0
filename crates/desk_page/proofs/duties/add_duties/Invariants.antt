use Rattle.std.proofs.Common.{◌≡◌, ◌++◌, take}
use Rattle.std.specs.List.{flat_map}
use Rattle.std.specs.String.{string_bytes}
use Rattle.desk_page.specs.Rows.{duty_row}
use Rattle.desk_page.proofs.duties.add_duties.Given as goal

-- a row for each duty before the index
abbrev pub invariant-loop-duty : goal.invariant-loop-duty
invariant-loop-duty l = string_bytes l.text ≡ string_bytes l.initial.text
    ++ flat_map duty_row (take l.duty-index l.duties)
