use Rattle.std.specs.Prelude.{if◌then◌else◌}
use Rattle.desk_http.specs.Replies.{no_memory, no_text}
use Rattle.desk_http.proofs.Short.{IsTold-short}
use Rattle.desk_http.proofs.replies.outcome_message.Goals as goal

pub returns-in-Err : goal.returns-in-Err
returns-in-Err c = (
  if c.args.is_get then no_memory else no_text,
  c.short_message.ensures,
  IsTold-short c.args.outcome.now _ c.args.shape c.args.is_get c.in-Answered.is,
)
