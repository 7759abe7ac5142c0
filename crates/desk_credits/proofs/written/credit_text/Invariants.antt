use Rattle.std.proofs.Common.{◌≡◌, drop, string_bytes, []}
use Rattle.desk_credits.specs.Written.{with_lines}
use Rattle.desk_credits.proofs.written.credit_text.Given as goal

-- the lines so far, with the rest, are all
abbrev pub invariant-loop-notice : goal.invariant-loop-notice
invariant-loop-notice l = with_lines (string_bytes l.text) (drop l.notice-index l.notices)
    ≡ with_lines [] l.notices
