use Rattle.std.proofs.Common.{◌≡◌, length, take, drop, inl, inr, refl, ◌∙◌, arith, ◌-◌}
use Rattle.std.proofs.lemmas.List.{take_all, length-drop}
use Rattle.httparse.specs.Spans.{RequestOverflows}
use Rattle.desk_http_head.proofs.Found.{IsFraming-found, IsAwaited-found}
use Rattle.desk_http_head.proofs.Stability.{HasNoHead-front, HasNoHead-over, RequestOverflows-front}
use Rattle.desk_http_head.specs.Framings.{framed}
use Rattle.desk_http_head.specs.Limits.{head_bytes, head_fields}
use Rattle.desk_http_head.proofs.framing.frame.Goals as goal

pub returns-in-Ok-Complete : goal.returns-in-Ok-Complete
returns-in-Ok-Complete c =
    let bytes = c.args.bytes.now in
    let front = c.front_of-front.result.now in
    let head = c.in-Ok-Complete.head in
    let found = rw c.in-Ok-Complete.field-0-is at c.in-Ok-Complete.ensures.complete in
    let within = rw c.in-Ok-Complete.field-0-is at c.in-Ok-Complete.ensures.within in
    let n = head.len in
    let size : length (drop n bytes) ≡ length bytes - n = length-drop n bytes in
    let rest : take (length bytes - n) (drop n bytes) ≡ drop n bytes =
    take_all (length bytes - n) (drop n bytes) (omega arith) in
    let method = c.of.ensures ∙ found.1.method in
    let path = c.of-in-Ok-Complete.ensures ∙ found.1.path in
    record {
      reading =
          IsFraming-found bytes front c.parse_request.new.headers head c.of.result.now
          c.of-in-Ok-Complete.result.now
          (framed c.judge.result) c.front_of-front.ensures.front c.front_of-front.ensures.most
          within (omega arith)
          found method path (rw rest at c.judge.ensures.reading);
      awaits =
          IsAwaited-found bytes front c.parse_request.new.headers head c.of.result.now
          c.of-in-Ok-Complete.result.now
          c.judge.result c.front_of-front.ensures.front c.front_of-front.ensures.most within
          (omega arith)
          found method path (rw rest at c.judge.ensures.awaits);
    }

pub returns-else-bytes-lt-HEAD_BYTES-clause-reading : goal.returns-else-bytes-lt-HEAD_BYTES-clause-reading
returns-else-bytes-lt-HEAD_BYTES-clause-reading c =
    let none = rw c.front_of-front.ensures.front at
    (rw c.in-Ok-Partial.field-0-is at c.in-Ok-Partial.ensures.partial) in
    inr (
      HasNoHead-front c.args.bytes.now c.if-bytes-lt-HEAD_BYTES.false none,
      (refl, inl c.if-bytes-lt-HEAD_BYTES.false),
    )

pub returns-in-Err-clause-reading : goal.returns-in-Err-clause-reading
returns-in-Err-clause-reading c =
    let front : RequestOverflows head_fields (take head_bytes c.args.bytes.now) =
    rw c.front_of-front.ensures.front at c.in-Err.ensures.no_room in
    let over : RequestOverflows head_fields c.args.bytes.now =
    RequestOverflows-front head_fields head_bytes c.args.bytes.now front in
    inr (HasNoHead-over c.args.bytes.now over, (refl, inr over))
