use Rattle.std.proofs.Common.{◌≡◌, ◌∙◌, true, false, sym, ap, refl, List, arith}
use Rattle.httparse.specs.Spans.{header_bytes}
use Rattle.desk_http_head.specs.Origins.{is_other_address}
use Rattle.desk_http_head.proofs.Any.{any-here, any-later}
use Rattle.desk_http_head.proofs.origins.has_other_address.Goals as goal

pub returns-then-is_other_address : goal.returns-then-is_other_address
returns-then-is_other_address c =
    let f = is_other_address c.args.port in
    let g = header_bytes c.args.head.now in
    sym (any-here f g c.args.fields.now c.loop-field.field-index _ (omega arith)
    (rw (c.of.ensures, c.of-in-loop-field.ensures) at (sym c.is_other_address.ensures ∙ c.if-is_other_address.true)))
    ∙ c.loop-field.invariant

pub loop-field-preserved : goal.loop-field-preserved
loop-field-preserved c =
    let f = is_other_address c.args.port in
    let g = header_bytes c.args.head.now in
    any-later f g c.args.fields.now c.loop-field.field-index _ (omega arith)
    (rw (c.of.ensures, c.of-in-loop-field.ensures) at (sym c.is_other_address.ensures ∙ c.if-is_other_address.false))
    ∙ c.loop-field.invariant
