use Rattle.std.proofs.Common.{◌≡◌, ◌++◌, take}
use Rattle.std.specs.List.{flat_map}
use Rattle.std.specs.Prelude.{string_bytes}
use Rattle.desk_json.specs.Rows.{behind_a_comma}
use Rattle.desk_json.proofs.row.add_rows.Given as goal

abbrev pub invariant-loop-row : goal.invariant-loop-row
invariant-loop-row g l = string_bytes l.text ≡ string_bytes l.fn.text
    ++ flat_map (λ row. behind_a_comma (g.R.Row.json row)) (take l.row-index l.rows)
