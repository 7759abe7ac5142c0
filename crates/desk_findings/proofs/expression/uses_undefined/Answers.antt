use Rattle.std.proofs.Common.{◌∙◌, ap}
use Rattle.std.specs.List.{list_any}
use Rattle.desk_expr.specs.Occurring.{leaves}
use Rattle.desk_findings.specs.Fields.{is_undefined}
use Rattle.desk_findings.proofs.ReadingLemmas.{any_same}
use Rattle.desk_findings.proofs.expression.uses_undefined.Goals as goal

pub returns : goal.returns
returns c = λ d known.
    c.any_undefined.ensures d known ∙ ap (list_any (is_undefined d)) c.as_slice.ensures.value
    ∙ any_same (is_undefined d) c.in_ok-used.used.items (leaves c.args.expr.now)
    c.in_ok-used.ensures.terms.members
