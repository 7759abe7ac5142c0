use Rattle.std.proofs.Common.{◌≡◌, take, IsUtf8}
use Rattle.desk_credits.specs.Written.{comments}
use Rattle.desk_credits.proofs.written.comments.Given as goal

-- the comments on those so far
abbrev pub invariant-loop-notice : goal.invariant-loop-notice
invariant-loop-notice l = (l.bytes.items ≡ comments (take l.notice-index l.notices))
    × IsUtf8 l.bytes.items
