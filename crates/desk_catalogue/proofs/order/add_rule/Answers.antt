use Rattle.std.proofs.Common.{◌∙◌, ap}
use Rattle.std.specs.Prelude.{map}
use Rattle.desk_catalogue.specs.Shown.{rule_of_entry}
use Rattle.desk_catalogue.proofs.KeptLemmas.{rules-insert_entry, was_new}
use Rattle.desk_catalogue.proofs.order.add_rule.Goals as goal

pub returns-clause-added : goal.returns-clause-added
returns-clause-added c =
    was_new c.args.rules.now.entries (record { term = c.args.rule.term; form = c.args.rule.form })
    (record { spelled = c.args.rule.spelled; codes = c.args.rule.codes }) c.in_ok-before.before
    c.is_none.result c.in_ok-before.ensures.old c.is_none.ensures

pub returns-clause-rules : goal.returns-clause-rules
returns-clause-rules c =
    ap (map rule_of_entry) c.in_ok-before.ensures.entries
    ∙ rules-insert_entry c.args.rules.now.entries
    (record { term = c.args.rule.term; form = c.args.rule.form })
    (record { spelled = c.args.rule.spelled; codes = c.args.rule.codes })
