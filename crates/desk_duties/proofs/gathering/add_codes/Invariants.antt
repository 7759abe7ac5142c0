use Rattle.std.proofs.Common.{◌≡◌, ◌++◌, map, drop}
use Rattle.desk_model.specs.Raised.{owed_code}
use Rattle.desk_duties.proofs.gathering.add_codes.Given as goal

abbrev pub invariant-loop-code : goal.invariant-loop-code
invariant-loop-code l =
    l.owed.items ++ map (owed_code l.release l.row l.term l.rule) (drop l.code-index l.codes)
    ≡ l.fn.owed.items ++ map (owed_code l.release l.row l.term l.rule) l.codes
