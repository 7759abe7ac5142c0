-- the fields that were looked at are none of these
use Rattle.std.proofs.Common.{◌≡◌, drop}
use Rattle.std.specs.Prelude.{map}
use Rattle.std.specs.List.{list_any}
use Rattle.httparse.specs.Spans.{header_bytes}
use Rattle.desk_http_head.specs.Origins.{is_foreign}
use Rattle.desk_http_head.proofs.origins.has_foreign.Given as goal

abbrev pub invariant-loop-field : goal.invariant-loop-field
invariant-loop-field l = list_any (is_foreign l.port) (map (header_bytes l.head) (drop l.field-index l.fields))
    ≡ list_any (is_foreign l.port) (map (header_bytes l.head) l.fields)
