use Rattle.std.proofs.Common.{ap, ◌∙◌}
use Rattle.serde_json.specs.Data.{string}
use Rattle.desk_json.proofs.ListLemmas.{all_values, value_more}
use Rattle.desk_json.proofs.cells.texts.Goals as goal

pub loop-text-preserved : goal.loop-text-preserved
loop-text-preserved c =
    value_more string c.args.texts.now c.loop-text.text-index c.text-item.result
    c.loop-text.values.items c.push.new.self.items
    c.in_ok-text_value.field-0 c.loop-text-test.true c.text-item.is c.loop-text.invariant
    (c.in_ok-text_value.ensures ∙ ap string c.as_str.ensures)
    c.in_ok-push.ensures.items

pub returns : goal.returns
returns c = all_values string c.args.texts.now c.loop-text.text-index c.loop-text.values
    c.loop-text-test.false c.loop-text.invariant
