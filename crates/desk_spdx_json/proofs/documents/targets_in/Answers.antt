use Rattle.std.proofs.Common.{List, refl}
use Rattle.serde_json.specs.View.{items_view, view}
use Rattle.serde_json.specs.declared.value.Value.{Value}
use Rattle.desk_base.specs.Borrowed.{texts}
use Rattle.desk_spdx_json.specs.Documents.{target_of, targets_in}
use Rattle.desk_spdx_json.proofs.Added.{piece_more, pieces_end}
use Rattle.desk_spdx_json.proofs.documents.targets_in.Goals as goal

pub loop-value-preserved : goal.loop-value-preserved
loop-value-preserved c =
    piece_more (λ (vs : List Value). targets_in (items_view vs)) (λ (v : Value). target_of (view v))
    c.args.list.now c.loop-value.value-index
    c.value-item.result (texts c.loop-value.found.items) (texts c.add_target.new.found.items)
    (targets_in (items_view c.args.list.now)) (λ rest. refl)
    c.loop-value-test.true c.value-item.is c.loop-value.invariant c.in_ok-add_target.ensures

pub returns : goal.returns
returns c =
    pieces_end (λ (vs : List Value). targets_in (items_view vs)) (λ (v : Value). target_of (view v))
    c.args.list.now c.loop-value.value-index
    (texts c.loop-value.found.items) (targets_in (items_view c.args.list.now))
    c.loop-value-test.false refl c.loop-value.invariant
