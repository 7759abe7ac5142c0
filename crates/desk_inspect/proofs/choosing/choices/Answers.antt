use Rattle.std.proofs.lemmas.Result.{IfOk-weaker}
use Rattle.std.specs.Result.{result_map_both}
use Rattle.desk_views.proofs.PageLemmas.{page_told}
use Rattle.desk_inspect.proofs.choosing.choices.Goals as goal

pub returns-in-Ok-clause-done : goal.returns-in-Ok-clause-done
returns-in-Ok-clause-done g c = IfOk-weaker c.tell_choices.result _ _
    (λ status told. (
      result_map_both (λ choices. choices.items) (λ refusal. refusal) c.in-Ok.found,
      c.in-Ok.ensures.found,
      told.1,
      told.0,
    ))
    c.tell_choices.ensures.told

pub returns-in-Ok-clause-failed : goal.returns-in-Ok-clause-failed
returns-in-Ok-clause-failed g c = page_told _ c.tell_choices.result c.tell_choices.ensures.fails

pub returns-in-Ok-clause-kept : goal.returns-in-Ok-clause-kept
returns-in-Ok-clause-kept g c = c.in-Ok.ensures.kept.kept
