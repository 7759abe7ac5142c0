use Rattle.desk_model.specs.Listings.{term_cost}
use Rattle.desk_history.specs.FromTables.{conclusion_found, rules_found}
use Rattle.desk_questions.specs.Found.{priced}
use Rattle.desk_questions.proofs.Listings.{read_then}
use Rattle.desk_questions.proofs.listing.priced_by.Goals as goal

pub returns-in-Expression-clause-answer : goal.returns-in-Expression-clause-answer
returns-in-Expression-clause-answer g c = λ w right.
    read_then g.T.Texts.is_of w (g.S.Store.seen c.args.store.now)
    (g.S.Store.seen c.in_force.new.store) (g.S.Store.seen c.price.new.store)
    (λ t. conclusion_found w t c.args.row)
    (λ profile text t. priced (w.cheapest profile text
    (term_cost w t.adoption (rules_found t) c.args.form.now c.args.row.document)))
    c.args.row c.in-Expression.expression c.in_ok-expression.field-0 c.price.result
    c.in_ok-expression.ensures.kept c.price.ensures.kept c.in-Expression.is
    (c.in_ok-expression.ensures.found w right) (c.price.ensures.answer w right)
