use Rattle.std.proofs.Common.{refl}
use Rattle.std.specs.String.{string_bytes}
use Rattle.desk_page.specs.Pieces.{rule_line}
use Rattle.desk_base.proofs.Lists.{joined_more}
use Rattle.desk_page.proofs.cell.add_rule_lines.Goals as goal

pub loop-rule-preserved : goal.loop-rule-preserved
loop-rule-preserved c =
    joined_more rule_line c.args.rules.now c.loop-rule.rule-index c.rule-item.result
    (string_bytes c.args.text.now) (string_bytes c.loop-rule.text)
    (string_bytes c.add_rule.new.text) _ c.loop-rule-test.true c.rule-item.is
    c.loop-rule.invariant refl c.in_ok-add_rule.ensures
