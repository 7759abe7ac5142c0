use Rattle.desk_http.specs.Replies.{head_bytes}
use Rattle.desk_http.proofs.replies.head.Goals as goal

pub returns : goal.returns
unfolding head_bytes
returns c = rw (← c.line-line.ensures) c.format.ensures.ok
