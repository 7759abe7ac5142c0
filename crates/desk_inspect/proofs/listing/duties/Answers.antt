use Rattle.std.proofs.lemmas.Result.{IfOk-weaker}
use Rattle.desk_texts.specs.Right.{AreRight}
use Rattle.desk_views.proofs.PageLemmas.{page_told}
use Rattle.desk_inspect.specs.Listing.{ListsDuties}
use Rattle.desk_inspect.proofs.ListingLemmas.{of_history}
use Rattle.desk_inspect.proofs.listing.duties.Goals as goal

pub returns-in-Ok-clause-done : goal.returns-in-Ok-clause-done
returns-in-Ok-clause-done g c = IfOk-weaker c.tell_duties-told.result _ _
    (λ status told. of_history AreRight _ _ c.in-Ok.ensures.kept c.in-Ok.snapshot
    c.in-Ok.ensures.found (λ s. ListsDuties c.args.wanted.now c.args.in_columns s
    (g.W.Write.contents c.args.writer.now) (g.W.Write.contents c.tell_duties-told.new.writer)
    status) told)
    c.tell_duties-told.ensures.told

pub returns-in-Ok-clause-failed : goal.returns-in-Ok-clause-failed
returns-in-Ok-clause-failed g c =
    page_told _ c.tell_duties-told.result c.tell_duties-told.ensures.fails

pub returns-in-Ok-clause-kept : goal.returns-in-Ok-clause-kept
returns-in-Ok-clause-kept g c = c.in-Ok.ensures.kept.kept
