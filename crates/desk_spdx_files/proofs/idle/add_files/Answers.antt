use Rattle.std.proofs.Common.{◌++◌, List, codes, refl}
use Rattle.desk_base.specs.Borrowed.{texts}
use Rattle.serde_json.specs.View.{items_view, view}
use Rattle.serde_json.specs.declared.value.Value.{Value}
use Rattle.desk_spdx_files.specs.Texts.{listed_in, texts_by}
use Rattle.desk_spdx_files.proofs.Added.{piece_more}
use Rattle.desk_spdx_files.proofs.idle.add_files.Goals as goal

pub loop-owner-preserved : goal.loop-owner-preserved
loop-owner-preserved c =
    let each = listed_in (codes "hasFiles") in
    piece_more (λ (vs : List Value). texts_by each (items_view vs)) (λ (v : Value). each (view v))
    c.args.packages.now c.loop-owner.owner-index c.owner-item.result (texts c.loop-owner.found.items)
    (texts c.add_listed_in.new.found.items)
    (texts c.args.found.now.items ++ texts_by each (items_view c.args.packages.now)) (λ rest. refl)
    c.loop-owner-test.true c.owner-item.is c.loop-owner.invariant c.in_ok-add_listed_in.ensures
