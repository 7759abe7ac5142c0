-- what was said so far, and what the fields that are left add to it
use Rattle.std.proofs.Common.{◌≡◌, drop}
use Rattle.std.specs.Prelude.{map}
use Rattle.httparse.specs.Spans.{header_bytes}
use Rattle.desk_http_head.specs.Fields.{length_from, unsaid}
use Rattle.desk_http_head.proofs.fields.body_length.Given as goal

abbrev pub invariant-loop-field : goal.invariant-loop-field
invariant-loop-field l = length_from l.said
    (map (header_bytes l.head) (drop l.field-index l.fields))
    ≡ length_from unsaid (map (header_bytes l.head) l.fields)
