use Rattle.std.proofs.Common.{◌∙◌, ◌++◌, ap}
use Rattle.std.specs.Prelude.{codes}
use Rattle.std.proofs.lemmas.Result.{on_ok_weaker}
use Rattle.std.proofs.lemmas.Str.{IsUtf8-from_is_utf8}
use Rattle.desk_tree_lint.specs.Shown.{name_at}
use Rattle.desk_tree_reports.specs.declared.ways.Way.TheVariants.{NamedLine}
use Rattle.desk_base.specs.Terminal.{shown}
use Rattle.desk_base.proofs.Lists.{append_four}
use Rattle.desk_tree_reports.proofs.ItemLemmas.{named_is, missing_line_is}
use Rattle.desk_tree_reports.proofs.ShownLemmas.{path_is_text}
use Rattle.desk_tree_reports.proofs.telling.Telling.add_missing_line.Goals as goal

pub returns : goal.returns
returns c =
    let name = name_at c.args.name in
    let old = c.args.self.now.text in
    let end = c.as_slice-2.ensures.value ∙ c.in_ok-end.ensures
    ∙ ap (λ l. shown l ++ codes "\n") (c.as_str.ensures.value ∙ c.in_ok-words.ensures) in
    let first = c.in_ok-add.ensures
    ∙ ap (λ l. old ++ l) (c.as_slice.ensures.value ∙ c.in_ok-front.ensures.bytes) in
    let second = c.in_ok-add_named.ensures.grown
    ∙ (λ j. first j ++ named_is NamedLine c.args.name.path j) in
    on_ok_weaker c.add-2.result (λ grown. grown ∙ (λ j. second j ++ end j)
    ∙ append_four old (codes "LICENSES/: no text of " ++ shown name.id) _ _
    ∙ ap (λ l. old ++ l) (missing_line_is name
    (IsUtf8-from_is_utf8 name.id c.in_ok-front.ensures.text)
    (path_is_text c.args.name.path c.in_ok-add_named.ensures.text))) c.add-2.ensures
