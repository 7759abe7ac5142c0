use Rattle.std.proofs.Common.{◌∙◌, ◌++◌, ap, append_assoc}
use Rattle.std.proofs.lemmas.Result.{on_ok_weaker}
use Rattle.serde_json.specs.Written.{comma_if}
use Rattle.desk_tree_reports.specs.Items.{row_front, path_member}
use Rattle.desk_tree_reports.proofs.ItemLemmas.{item_is}
use Rattle.desk_tree_reports.proofs.telling.Telling.add_item.Goals as goal

pub returns : goal.returns
returns c =
    let row = c.args.row.now in
    let comma = comma_if c.args.self.now.later in
    let old = c.args.self.now.text in
    let front = c.in_ok-add.ensures
    ∙ ap (λ l. old ++ l) (c.as_slice.ensures.value ∙ c.in_ok-front.ensures) in
    on_ok_weaker c.add_shared.result (λ grown. grown
    ∙ (λ j. front j ++ (c.in_ok-path.ensures ∙ ap path_member c.as_str.ensures) j)
    ∙ append_assoc old (comma ++ row_front row) (path_member row.path)
    ∙ ap (λ l. old ++ l) (append_assoc comma (row_front row) (path_member row.path)
    ∙ ap (λ l. comma ++ l) (item_is row))) c.add_shared.ensures
