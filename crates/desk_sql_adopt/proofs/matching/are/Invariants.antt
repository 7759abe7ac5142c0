use Rattle.std.proofs.Common.{◌≡◌, map, take, length}
use Rattle.desk_sql_adopt.proofs.matching.are.Given as goal

-- so far each is as declared
abbrev pub invariant-loop-item : goal.invariant-loop-item
invariant-loop-item g l = take (length l.yielded) l.items
    ≡ take (length l.yielded) (map g.F.Form.declared l.forms)
