use Rattle.std.proofs.Common.{map}
use Rattle.desk_spdx_json.specs.Elements.{element_text, merged}
use Rattle.desk_spdx_json.proofs.Repeated.{merged_loop}
use Rattle.desk_spdx_json.proofs.elements.merged.Goals as goal

pub loop-element-preserved : goal.loop-element-preserved
loop-element-preserved c =
    let both = merged_loop c.loop-element.yielded c.in-Some.element c.loop-element.element-iterator.rest.items c.next.new.self.rest.items
    c.loop-element.seen c.add_once.new.seen c.loop-element.steps c.add_once.new.steps
    (merged (map element_text c.args.elements.items)) c.in-Some.ensures.steps.0 c.loop-element.invariant.sees
    c.in_ok-add_once.ensures.keeps c.loop-element.invariant.steps c.in_ok-add_once.ensures.steps in
    record { sees = both.0; steps = both.1 }
