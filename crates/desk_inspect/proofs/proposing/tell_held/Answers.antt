use Rattle.desk_texts.specs.Right.{AreRight}
use Rattle.desk_views.proofs.PageLemmas.{page_told}
use Rattle.desk_inspect.proofs.ProposingLemmas.{held_told}
use Rattle.desk_inspect.proofs.proposing.tell_held.Goals as goal

pub returns-in-Ok-clause-done : goal.returns-in-Ok-clause-done
returns-in-Ok-clause-done g c = held_told AreRight c.args.snapshot.now c.args.document _ _
    c.in-Ok.choices.items c.as_slice-choices.result.now c.tell_document.result _ _
    c.in-Ok.ensures.kept c.in-Ok.ensures.found c.as_slice-choices.ensures.value
    c.tell_document.ensures.told

pub returns-in-Ok-clause-failed : goal.returns-in-Ok-clause-failed
returns-in-Ok-clause-failed g c = page_told _ c.tell_document.result c.tell_document.ensures.fails

pub returns-in-Ok-clause-kept : goal.returns-in-Ok-clause-kept
returns-in-Ok-clause-kept g c = c.in-Ok.ensures.kept.kept
