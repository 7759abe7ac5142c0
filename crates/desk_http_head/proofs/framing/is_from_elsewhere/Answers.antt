use Rattle.std.proofs.Common.{◌≡◌, length, take, arith}
use Rattle.httparse.specs.Spans.{RequestOverflows}
use Rattle.desk_http_head.specs.Limits.{head_bytes, head_fields}
use Rattle.desk_http_head.proofs.Elsewhere.{IsFromElsewhere-found, HasNoHead-unread, no_elsewhere}
use Rattle.desk_http_head.proofs.Stability.{HasNoHead-over, RequestOverflows-front}
use Rattle.desk_http_head.proofs.framing.is_from_elsewhere.Goals as goal

pub returns-in-Ok-Complete : goal.returns-in-Ok-Complete
returns-in-Ok-Complete c =
    let found = rw c.in-Ok-Complete.field-0-is at c.in-Ok-Complete.ensures.complete in
    let within = rw c.in-Ok-Complete.field-0-is at c.in-Ok-Complete.ensures.within in
    IsFromElsewhere-found c.args.port c.args.bytes.now c.front_of-front.result.now
    c.parse_request.new.headers c.in-Ok-Complete.head c.are_foreign.result
    c.front_of-front.ensures.front c.front_of-front.ensures.most within (omega arith) found
    c.are_foreign.ensures

pub returns-in-Ok-Partial : goal.returns-in-Ok-Partial
returns-in-Ok-Partial c =
    no_elsewhere c.args.port c.args.bytes.now
    (HasNoHead-unread c.args.bytes.now c.front_of-front.result.now c.front_of-front.ensures.front
    (rw c.in-Ok-Partial.field-0-is at c.in-Ok-Partial.ensures.partial))

pub returns-in-Err : goal.returns-in-Err
returns-in-Err c =
    let front : RequestOverflows head_fields (take head_bytes c.args.bytes.now) =
    rw c.front_of-front.ensures.front at c.in-Err.ensures.no_room in
    no_elsewhere c.args.port c.args.bytes.now
    (HasNoHead-over c.args.bytes.now
    (RequestOverflows-front head_fields head_bytes c.args.bytes.now front))
