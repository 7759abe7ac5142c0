use Rattle.std.proofs.Common.{refl}
use Rattle.std.specs.Fmt.{digits}
use Rattle.serde_json.proofs.OnLiterals.{serde_json_on_literals}
use Rattle.desk_http.specs.Replies.{head_bytes, reply_bytes}
use Rattle.desk_http.proofs.replies.no_memory.Goals as goal

pub returns : goal.returns
unfolding head_bytes reply_bytes digits serde_json_on_literals
returns c = refl
