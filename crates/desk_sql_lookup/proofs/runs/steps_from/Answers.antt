use Rattle.std.proofs.Common.{◌∙◌, arith, subst, Ok}
use Rattle.desk_sql_lookup.specs.Steps.{AreCounts, HaveSteps}
use Rattle.desk_sql_lookup.proofs.LookUps.{then_tells}
use Rattle.desk_sql_lookup.proofs.StepLemmas.{have_steps}
use Rattle.desk_sql_lookup.proofs.runs.steps_from.Goals as goal

pub returns : goal.returns
returns g c =
    let first = c.args.first in
    let last = c.saturating_add-last.result in
    let counts = c.in_ok-counts_of.field-0 in
    then_tells g.S.Store c.args.conn.now c.changed_duties.new.conn c.in_ok-changed.ensures
    (λ t. Unit {0}) (Ok counts) (λ found t. HaveSteps first found.items t)
    (λ clean t held. have_steps first last t counts.items
    (let sum = c.saturating_add-last.ensures in let many = c.saturating_add-many.ensures in
    let long = c.in_ok-counts_of.ensures.many in let fits = c.ranges.first.fits in
    omega (arith, sum, many, long, fits))
    (subst (λ l. AreCounts first l counts.items)
    (c.deref.ensures.value ∙ c.in_ok-changed.ensures.found clean t held)
    c.in_ok-counts_of.ensures.counts)) tt
