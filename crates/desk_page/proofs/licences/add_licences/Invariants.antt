use Rattle.std.proofs.Common.{◌≡◌, ◌++◌, take}
use Rattle.std.specs.List.{flat_map}
use Rattle.std.specs.String.{string_bytes}
use Rattle.desk_page.specs.Rows.{licence_row}
use Rattle.desk_page.proofs.licences.add_licences.Given as goal

-- a row for each licence before the index
abbrev pub invariant-loop-licence : goal.invariant-loop-licence
invariant-loop-licence l = string_bytes l.text ≡ string_bytes l.initial.text
    ++ flat_map (licence_row l.duties) (take l.licence-index l.licences)
