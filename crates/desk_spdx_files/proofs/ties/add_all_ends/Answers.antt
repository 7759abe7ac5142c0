use Rattle.std.proofs.Common.{◌++◌, List, refl}
use Rattle.desk_base.specs.Borrowed.{texts}
use Rattle.serde_json.specs.View.{items_view, view}
use Rattle.serde_json.specs.declared.value.Value.{Value}
use Rattle.desk_spdx_files.specs.Texts.{texts_by}
use Rattle.desk_spdx_files.specs.Files.{needed_ends}
use Rattle.desk_spdx_files.proofs.Added.{piece_more}
use Rattle.desk_spdx_files.proofs.ties.add_all_ends.Goals as goal

pub loop-value-preserved : goal.loop-value-preserved
loop-value-preserved c =
    let each = needed_ends c.args.coded in
    piece_more (λ (vs : List Value). texts_by each (items_view vs)) (λ (v : Value). each (view v))
    c.args.list.now c.loop-value.value-index c.value-item.result (texts c.loop-value.found.items)
    (texts c.add_ends.new.found.items)
    (texts c.args.found.now.items ++ texts_by each (items_view c.args.list.now)) (λ rest. refl)
    c.loop-value-test.true c.value-item.is c.loop-value.invariant c.in_ok-add_ends.ensures
