use Rattle.desk_texts.specs.Right.{AreRight}
use Rattle.desk_views.proofs.PageLemmas.{page_told}
use Rattle.desk_inspect.proofs.ListingLemmas.{documents_told}
use Rattle.desk_inspect.proofs.listing.documents.Goals as goal

pub returns-in-Ok-clause-done : goal.returns-in-Ok-clause-done
returns-in-Ok-clause-done g c = documents_told AreRight _ _ c.in-Ok.ensures.kept c.in-Ok.snapshot
    c.in-Ok.ensures.found c.args.in_columns _ _ c.write_documents-told.result
    c.write_documents-told.ensures.told

pub returns-in-Ok-clause-failed : goal.returns-in-Ok-clause-failed
returns-in-Ok-clause-failed g c =
    page_told _ c.write_documents-told.result c.write_documents-told.ensures.fails

pub returns-in-Ok-clause-kept : goal.returns-in-Ok-clause-kept
returns-in-Ok-clause-kept g c = c.in-Ok.ensures.kept.kept
