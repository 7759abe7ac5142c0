use Rattle.std.proofs.Common.{◌∙◌, ◌<◌, ◌-◌, arith, length}
use Rattle.std.proofs.lemmas.List.{get_or_default}
use Rattle.desk_sql_lookup.proofs.StepLemmas.{counts_one}
use Rattle.desk_sql_lookup.proofs.runs.count.Goals as goal

pub returns-then-at-len-clause-counts : goal.returns-then-at-len-clause-counts
returns-then-at-len-clause-counts c = λ numbers few are.
    let counts = c.args.counts.now.items in
    let at = c.args.number - c.args.first in
    let within : at < length counts =
    (let long = c.len.ensures in let test = c.if-at-len.true in omega (arith, long, test)) in
    counts_one c.args.first counts numbers c.args.number are c.saturating_add.result
    c.if-number-first.false within few
    (λ small. let read = c.index.ensures ∙ get_or_default counts at c.index.result.now 0 within in
    let is = c.saturating_add.ensures in omega (arith, small, read, is))
