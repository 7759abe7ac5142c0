use Rattle.std.proofs.Common.{◌≡◌, ◌+◌, take}
use Rattle.std.specs.String.{string_bytes}
use Rattle.desk_sql_layout.specs.Cells.{joined}
use Rattle.desk_sql_write.proofs.catalogue.join_codes.Given as goal

-- the codes so far are joined
abbrev pub invariant-loop-code : goal.invariant-loop-code
invariant-loop-code l = string_bytes l.text ≡ joined (take (l.code-index + 1) l.codes)
