use Rattle.std.proofs.Common.{◌∙◌, ap}
use Rattle.desk_base.specs.Folded.{folded}
use Rattle.desk_texts.proofs.ByIds.{last_put, none_put}
use Rattle.desk_texts.proofs.licences.by_id.Goals as goal

pub loop-text-init : goal.loop-text-init
loop-text-init c = λ id. none_put c.args.texts.items c.new-map.result c.new-map.ensures.empty id

pub loop-text-preserved-in_ok-insert : goal.loop-text-preserved-in_ok-insert
loop-text-preserved-in_ok-insert c = λ id.
    last_put c.loop-text.left.items c.pop.new.self.items c.in-Some.text c.loop-text.map
    c.insert.new.self c.in_ok-id.id (c.in_ok-id.ensures ∙ ap folded c.as_str.ensures)
    c.in-Some.ensures.items c.in_ok-insert.ensures.updates id
    ∙ c.loop-text.invariant id

pub loop-text-preserved : goal.loop-text-preserved
loop-text-preserved c = λ id.
    last_put c.loop-text.left.items c.pop.new.self.items c.in-Some.text c.loop-text.map
    c.insert.new.self c.in_ok-id.id (c.in_ok-id.ensures ∙ ap folded c.as_str.ensures)
    c.in-Some.ensures.items c.in_ok-insert.ensures.updates id
    ∙ c.loop-text.invariant id
