use Rattle.std.proofs.Common.{ap, map, take_all, ◌∙◌}
use Rattle.serde_json.specs.Data.{array, string}
use Rattle.serde_json.specs.View.{items_of, view}
use Rattle.serde_json.proofs.Views.{view-Array}
use Rattle.desk_wanting.proofs.Lists.{seen_more}
use Rattle.desk_wanting.proofs.choice_requests.text_list.Goals as goal

pub loop-text-preserved : goal.loop-text-preserved
loop-text-preserved c =
    seen_more view string c.args.texts.now c.loop-text.text-index c.text-item.result
    c.loop-text.values.items c.push.new.self.items
    c.in_ok-text_value.field-0 c.loop-text-test.true c.text-item.is c.loop-text.invariant
    (c.in_ok-text_value.ensures ∙ ap string c.as_str.ensures)
    c.in_ok-push.ensures.items

pub returns : goal.returns
returns c =
    view-Array c.loop-text.values
    ∙ ap (λ ds. array (items_of ds))
    (c.loop-text.invariant ∙ ap (map string)
    (take_all c.loop-text.text-index c.args.texts.now c.loop-text-test.false))
