use Rattle.std.proofs.Common.{◌∙◌, ◌++◌, ap}
use Rattle.std.proofs.lemmas.Result.{on_ok_weaker}
use Rattle.json.specs.Print.{escape}
use Rattle.desk_tree_lint.specs.Shown.{name_at}
use Rattle.desk_tree_problems.specs.Rows.{text_words}
use Rattle.desk_tree_reports.specs.declared.ways.Way.TheVariants.{NamedItem}
use Rattle.desk_tree_reports.specs.Items.{missing_front, missing_end}
use Rattle.desk_tree_reports.proofs.ItemLemmas.{named_is, added_five, missing_item_is}
use Rattle.desk_tree_reports.proofs.telling.Telling.add_missing_item.Goals as goal

pub returns : goal.returns
returns c =
    let name = name_at c.args.name in
    let old = c.args.self.now.text in
    let words = c.as_slice-2.ensures.value ∙ c.in_ok-words-2.ensures
    ∙ ap escape (c.as_str.ensures.value ∙ c.in_ok-words.ensures) in
    let first = c.in_ok-add_shared.ensures ∙ ap (λ l. old ++ l) c.in_ok-front.ensures in
    let second = c.in_ok-add.ensures
    ∙ (λ j. first j ++ (c.as_slice.ensures.value ∙ c.in_ok-id.ensures) j) in
    let third = c.in_ok-add_named.ensures.grown
    ∙ (λ j. second j ++ named_is NamedItem c.args.name.path j) in
    let fourth = c.in_ok-add-2.ensures ∙ (λ j. third j ++ words j) in
    on_ok_weaker c.add_shared-2.result (λ grown. grown
    ∙ (λ j. fourth j ++ c.in_ok-end.ensures j)
    ∙ added_five old missing_front (escape name.id) _ (escape (text_words name.id)) missing_end
    ∙ ap (λ l. old ++ l) (missing_item_is name)) c.add_shared-2.ensures
