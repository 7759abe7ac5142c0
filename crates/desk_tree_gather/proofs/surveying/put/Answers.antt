use Rattle.std.proofs.Common.{◌∙◌, ap, sym}
use Rattle.desk_tree_gather.specs.Trees.{put_file}
use Rattle.desk_tree_gather.specs.Survey.{path_flaw}
use Rattle.desk_tree_gather.specs.Shown.{tree_in, entries_of}
use Rattle.desk_tree_gather.proofs.TreeLemmas.{entries_of-insert_entry}
use Rattle.desk_tree_gather.proofs.SurveyLemmas.{put-is}
use Rattle.desk_tree_gather.proofs.surveying.put.Goals as goal

pub returns-in_ok-insert-in-None-clause-tree : goal.returns-in_ok-insert-in-None-clause-tree
returns-in_ok-insert-in-None-clause-tree c =
    let tree = tree_in c.args.tree.now in
    ap entries_of c.in_ok-insert-in-None.ensures.entries
    ∙ entries_of-insert_entry c.args.tree.now.entries c.as_str-path.result c.as_slice.result
    ∙ (λ i. put_file (record { path = c.as_str-path.ensures i; bytes = c.as_slice.ensures i }) tree)
    ∙ put-is tree c.args.file.now
    (sym c.in-None.is ∙ c.in_ok-flaw.ensures ∙ ap (path_flaw tree) c.as_str-path.ensures)
