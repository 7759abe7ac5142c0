use Rattle.std.proofs.Common.{◌∙◌}
use Rattle.desk_model.specs.declared.command.Query.TheVariants as query
use Rattle.std.specs.Prelude.{Ok, Err}
use Rattle.desk_history.specs.FromTables.{queried_from}
use Rattle.desk_questions.specs.Found.{listed_found}
use Rattle.desk_questions.proofs.Listings.{alternatives_told, found_as, told_after}
use Rattle.desk_questions.proofs.listing.alternatives.Goals as goal

pub returns-in-Ok-clause-answer : goal.returns-in-Ok-clause-answer
returns-in-Ok-clause-answer g c = λ w right.
    told_after (g.S.Store.seen c.args.store.now) (g.S.Store.seen c.package_of.new.store)
    (g.S.Store.seen c.listed_for.new.store)
    (λ t. listed_found w t c.in-Ok.row)
    (λ t. queried_from w t (query.Alternatives c.args.document c.args.package_id.now))
    c.listed_for.result
    c.in_ok-row.ensures.kept c.listed_for.ensures.kept
    (λ h t held. found_as (listed_found w t) c.in_ok-row.field-0 (Ok c.in-Ok.row) _ c.in-Ok.is
    (c.in_ok-row.ensures.found h t held (listed_found w t)
    ∙ alternatives_told w t c.args.document c.args.package_id.now))
    (c.listed_for.ensures.answer w right)

pub returns-in-Err-clause-answer : goal.returns-in-Err-clause-answer
returns-in-Err-clause-answer g c = λ w right h t held.
    found_as (listed_found w t) c.in_ok-row.field-0 (Err c.in-Err.refusal) _ c.in-Err.is
    (c.in_ok-row.ensures.found h t held (listed_found w t)
    ∙ alternatives_told w t c.args.document c.args.package_id.now)
