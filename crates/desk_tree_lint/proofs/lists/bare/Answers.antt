use Rattle.std.proofs.Common.{◌≡◌, ◌∙◌, ap, map, subst}
use Rattle.std.specs.Prelude.{IfOk}
use Rattle.desk_tree_infos.specs.Sharing.{outline_in}
use Rattle.desk_tree_lint.specs.Lists.{bare_in}
use Rattle.desk_tree_lint.proofs.ListLemmas.{bare-outlined}
use Rattle.desk_tree_lint.proofs.lists.bare.Goals as goal

pub returns : goal.returns
returns c =
    subst (λ l. IfOk c.bare_in.result (λ paths. paths ≡ l))
    (ap (λ os. bare_in (map outline_in os)) c.as_slice.ensures.value
    ∙ ap bare_in c.in_ok-outlines.ensures ∙ bare-outlined c.args.infos.now)
    c.bare_in.ensures
