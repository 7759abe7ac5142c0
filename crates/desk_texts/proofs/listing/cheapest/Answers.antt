use Rattle.std.proofs.Common.{◌∙◌, ap, map}
use Rattle.desk_expr.specs.Printing.{printed_term}
use Rattle.desk_texts.proofs.Costs.{some_priced, none_priced, at_some, at_none}
use Rattle.desk_texts.proofs.listing.cheapest.Goals as goal

pub returns-in-Ok-Some : goal.returns-in-Ok-Some
returns-in-Ok-Some c =
    λ cost bounded given. some_priced cost bounded c.args.expr.now c.in_ok-table.table
    c.in_ok-table.ensures c.in-Ok-Some.ensures.listable
    c.args.costs.now given c.in-Ok-Some.choice.cost c.in-Ok-Some.choice.set
    c.in_ok-printed_terms-in-Ok-Some.field-0
    (at_some _ _ _ c.in-Ok-Some.field-0-is c.in-Ok-Some.ensures.choice)
    (c.in_ok-printed_terms-in-Ok-Some.ensures ∙ ap (map printed_term) c.terms.ensures.terms)

pub returns-in-Ok-None : goal.returns-in-Ok-None
returns-in-Ok-None c =
    λ cost bounded given. none_priced cost bounded c.args.expr.now c.in_ok-table.table
    c.in_ok-table.ensures c.in-Ok-None.ensures.listable
    c.args.costs.now given (at_none _ _ c.in-Ok-None.field-0-is c.in-Ok-None.ensures.none)

pub returns : goal.returns
returns c = λ cost bounded given. c.in_ok-list_fault-in-Err.ensures c.args.expr.now
    c.in-Err.ensures.fault
