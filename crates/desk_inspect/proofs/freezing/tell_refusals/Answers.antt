use Rattle.std.proofs.lemmas.Result.{IfOk-weaker}
use Rattle.desk_views.proofs.PageLemmas.{page_told}
use Rattle.desk_inspect.proofs.freezing.tell_refusals.Goals as goal

pub returns-in-Ok-clause-done : goal.returns-in-Ok-clause-done
returns-in-Ok-clause-done g c = IfOk-weaker c.tell_wanting.result _ _
    (λ status told. (c.in-Ok.refusals.items, c.in-Ok.ensures.found, told.1, told.0))
    c.tell_wanting.ensures.told

pub returns-in-Ok-clause-failed : goal.returns-in-Ok-clause-failed
returns-in-Ok-clause-failed g c = page_told _ c.tell_wanting.result c.tell_wanting.ensures.fails

pub returns-in-Ok-clause-kept : goal.returns-in-Ok-clause-kept
returns-in-Ok-clause-kept g c = c.in-Ok.ensures.kept.kept
