use Rattle.std.proofs.Common.{◌∙◌, ◌++◌, [], ◌∷◌, List, ap, refl, ℕ}
use Rattle.desk_base.specs.Borrowed.{texts}
use Rattle.serde_json.specs.View.{items_view, view}
use Rattle.serde_json.specs.declared.value.Value.{Value}
use Rattle.desk_spdx_files.specs.Texts.{text_itself, texts_by}
use Rattle.desk_spdx_files.proofs.Added.{piece_more}
use Rattle.desk_spdx_files.proofs.Added.{pushed}
use Rattle.desk_spdx_files.proofs.texts.add_listed.Goals as goal

pub loop-value-preserved : goal.loop-value-preserved
loop-value-preserved c =
    let each = text_itself in
    piece_more (λ (vs : List Value). texts_by each (items_view vs)) (λ (v : Value). each (view v))
    c.args.list.now c.loop-value.value-index c.value-item.result (texts c.loop-value.found.items)
    (texts c.push.new.self.items)
    (texts c.args.found.now.items ++ texts_by each (items_view c.args.list.now)) (λ rest. refl)
    c.loop-value-test.true c.value-item.is c.loop-value.invariant
    (pushed c.loop-value.found.items c.push.new.self.items _ c.in_ok-push.ensures.items
    ∙ ap (λ (text : List ℕ). texts c.loop-value.found.items ++ text ∷ []) c.text_or_empty.ensures)
