use Rattle.std.proofs.Common.{◌∙◌, ◌++◌, [], ◌∷◌, take, ap, sym}
use Rattle.std.proofs.lemmas.List.{take_more}
use Rattle.toml.proofs.Views.{items_view-push, view-Table}
use Rattle.toml.specs.Data.{push_item, table}
use Rattle.toml.specs.View.{items_view}
use Rattle.toml.specs.declared.value.Value.TheVariants.{Table}
use Rattle.desk_entries.proofs.WrittenLemmas.{text_items-push}
use Rattle.desk_entries.specs.Written.{text_items}
use Rattle.desk_entries.proofs.tables.text_values.Goals as goal

pub loop-text-preserved : goal.loop-text-preserved
loop-text-preserved c =
    let texts = c.args.texts.now in
    let text = c.text-item.result in
    let place = c.loop-text.text-index in
    let table_is = view-Table c.in_ok-text_table.field-0 ∙ ap table c.in_ok-text_table.ensures in
    ap items_view c.in_ok-push.ensures.items
    ∙ items_view-push c.loop-text.values.items (Table c.in_ok-text_table.field-0)
    ∙ (λ i. push_item (c.loop-text.invariant i) (table_is i))
    ∙ sym (text_items-push (take place texts) text)
    ∙ ap (λ x. text_items (take place texts ++ x ∷ [])) c.text-item.is
    ∙ ap text_items (sym (take_more texts place text c.loop-text-test.true))
