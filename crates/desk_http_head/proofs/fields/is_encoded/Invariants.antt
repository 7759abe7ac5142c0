-- the fields that were looked at have other names
use Rattle.std.proofs.Common.{◌≡◌, drop, codes}
use Rattle.std.specs.Prelude.{map}
use Rattle.httparse.specs.Spans.{header_bytes}
use Rattle.desk_http_head.specs.Fields.{has_field}
use Rattle.desk_http_head.proofs.fields.is_encoded.Given as goal

abbrev pub invariant-loop-field : goal.invariant-loop-field
invariant-loop-field l = has_field (codes "transfer-encoding")
    (map (header_bytes l.head) (drop l.field-index l.fields))
    ≡ has_field (codes "transfer-encoding") (map (header_bytes l.head) l.fields)
