use Rattle.std.proofs.Common.{refl}
use Rattle.std.specs.Fmt.{digits}
use Rattle.desk_http.specs.Replies.{head_bytes, reply_bytes}
use Rattle.desk_http.proofs.replies.from_elsewhere.Goals as goal

pub returns : goal.returns
unfolding head_bytes reply_bytes digits
returns c = refl
