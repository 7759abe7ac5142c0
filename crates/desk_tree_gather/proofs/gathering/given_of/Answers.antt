use Rattle.std.proofs.Common.{◌∙◌, ap, map}
use Rattle.std.proofs.lemmas.Result.{IfOk-weaker}
use Rattle.desk_model.specs.Texts.{sorted_set}
use Rattle.desk_tree_annotations.specs.Tags.{tag_text}
use Rattle.desk_tree_gather.specs.Gathering.{values}
use Rattle.desk_tree_infos.specs.Information.{given}
use Rattle.desk_tree_infos.specs.Sharing.{annotations_at}
use Rattle.desk_tree_infos.proofs.AmongLemmas.{given_set}
use Rattle.desk_tree_gather.proofs.gathering.given_of.Goals as goal

pub returns : goal.returns
returns c =
    let found = annotations_at c.args.all.now c.args.counting.now in
    IfOk-weaker c.sources_of.result _ _
    (λ g is.
    ap sorted_set is
    ∙ ap (λ l. sorted_set (given c.args.of l found))
    (c.in_ok-own.ensures ∙ ap sorted_set c.in_ok-listed.ensures)
    ∙ given_set c.args.of (values (map tag_text c.args.own.now)) found)
    c.sources_of.ensures
