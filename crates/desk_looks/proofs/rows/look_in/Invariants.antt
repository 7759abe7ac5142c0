use Rattle.std.proofs.Common.{◌≡◌, drop}
use Rattle.std.specs.Prelude.{map}
use Rattle.desk_looks.specs.Looks.{look_in, row_text}
use Rattle.desk_looks.proofs.rows.look_in.Given as goal

abbrev pub invariant-loop-row : goal.invariant-loop-row
invariant-loop-row l = look_in l.head (map row_text (drop l.row-index l.rows))
    ≡ look_in l.head (map row_text l.rows)
