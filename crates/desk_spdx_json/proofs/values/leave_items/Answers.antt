use Rattle.std.proofs.Common.{◌++◌, List, [], ◌∷◌, refl}
use Rattle.serde_json.specs.View.{items_view}
use Rattle.serde_json.specs.declared.value.Value.{Value}
use Rattle.desk_spdx_json.specs.Steps.{left_out, step}
use Rattle.desk_spdx_json.specs.Values.{left_items}
use Rattle.desk_spdx_json.proofs.Added.{piece_more}
use Rattle.desk_spdx_json.proofs.values.leave_items.Goals as goal

pub loop-value-preserved : goal.loop-value-preserved
loop-value-preserved c =
    piece_more (λ (vs : List Value). left_items c.args.kind (items_view vs))
    (λ (v : Value). step [] (left_out c.args.kind) ∷ []) c.args.list.now
    c.loop-value._value-index c._value-item.result c.loop-value.steps c.add.new.self
    (c.args.steps.now ++ left_items c.args.kind (items_view c.args.list.now)) (λ rest. refl)
    c.loop-value-test.true c._value-item.is
    c.loop-value.invariant c.in_ok-add.ensures
