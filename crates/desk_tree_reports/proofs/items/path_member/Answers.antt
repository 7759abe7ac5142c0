use Rattle.std.proofs.Common.{◌∙◌, ◌++◌, ◌∷◌, [], ap, append_assoc}
use Rattle.std.specs.Prelude.{codes}
use Rattle.json.specs.Print.{quoted}
use Rattle.desk_tree_reports.specs.Items.{path_member}
use Rattle.desk_tree_reports.proofs.items.path_member.Goals as goal

pub returns : goal.returns
unfolding path_member
returns c =
    c.in_ok-push.ensures.items ∙ ap (λ l. l ++ 125 ∷ []) (c.in_ok-extend_from_slice.ensures.items
    ∙ (λ j. c.in_ok-bytes.ensures j ++ (c.as_slice.ensures.value ∙ c.in_ok-path.ensures) j))
    ∙ append_assoc (codes ",\"path\":") (quoted c.args.path.now) (codes "}")
