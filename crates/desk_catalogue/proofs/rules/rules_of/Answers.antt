use Rattle.std.proofs.Common.{sym, ap, codes, []}
use Rattle.toml.specs.Data.{get_member}
use Rattle.toml.specs.View.{items_view, table_view}
use Rattle.desk_catalogue.specs.Reading.{each, with_rule, rules_of}
use Rattle.desk_catalogue.specs.Shown.{codes_in, rules_in}
use Rattle.desk_catalogue.proofs.ReadingLemmas.{gives_along}
use Rattle.desk_catalogue.proofs.rules.rules_of.Goals as goal
use Rattle.desk_base.specs.Results.{then_read}

pub returns-in-Ok : goal.returns-in-Ok
returns-in-Ok c = λ terms h.
    let forms = c.args.known.now.forms in
    let duties = codes_in c.args.known.now.duties in
    let entries = each (with_rule terms forms duties) [] 0 in
    gives_along c.each_rule.result (entries (items_view c.in-Ok.values.now))
    (rules_of terms forms duties (get_member (codes "rule") (table_view c.args.table.now))) rules_in
    (sym (ap (λ t. then_read t entries) c.in-Ok.ensures)) (c.each_rule.ensures terms h)
