use Rattle.desk_access.proofs.Chains.{same_then_kept}
use Rattle.desk_texts.specs.Right.{AreRight}
use Rattle.desk_inspect.proofs.ProposingLemmas.{proposals_told}
use Rattle.desk_inspect.proofs.proposing.proposals.Goals as goal

pub returns-in-Ok-clause-done : goal.returns-in-Ok-clause-done
returns-in-Ok-clause-done g c = proposals_told AreRight c.in-Ok.snapshot c.args.document _ _
    c.tell_held-told.result _ _ _ c.in-Ok.ensures.kept c.tell_held-told.ensures.kept
    c.in-Ok.ensures.found c.tell_held-told.ensures.done

pub returns-in-Ok-clause-kept : goal.returns-in-Ok-clause-kept
returns-in-Ok-clause-kept g c =
    same_then_kept _ _ _ c.in-Ok.ensures.kept c.tell_held-told.ensures.kept
