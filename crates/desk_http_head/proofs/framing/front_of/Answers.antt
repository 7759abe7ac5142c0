use Rattle.std.proofs.Common.{◌≤◌, length, arith, sym}
use Rattle.std.proofs.lemmas.List.{take_all}
use Rattle.desk_http_head.specs.Limits.{head_bytes}
use Rattle.desk_http_head.proofs.framing.front_of.Goals as goal

pub returns-then-bytes-lt-HEAD_BYTES-clause-front : goal.returns-then-bytes-lt-HEAD_BYTES-clause-front
returns-then-bytes-lt-HEAD_BYTES-clause-front c =
    let short : length c.args.bytes.now ≤ head_bytes = omega arith in
    sym (take_all head_bytes c.args.bytes.now short)
