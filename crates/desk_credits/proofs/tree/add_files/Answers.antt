use Rattle.std.proofs.Common.{◌∙◌, ◌+◌, List, [], ◌++◌, ap, append-nil, drop, map, refl, subst, sym}
use Rattle.std.proofs.lemmas.List.{drop_all}
use Rattle.desk_base.proofs.Lists.{drop_item}
use Rattle.desk_tree_gather.specs.Shown.{tree_in}
use Rattle.desk_tree_infos.specs.Firsts.{first_in}
use Rattle.desk_tree_infos.specs.declared.firsts.First.{First}
use Rattle.desk_credits.specs.declared.notice.Notice.{Notice}
use Rattle.desk_credits.specs.Notices.{UsesIn, with_notices}
use Rattle.desk_credits.proofs.NoticeLemmas.{with_notices-append}
use Rattle.desk_credits.proofs.TreeLemmas.{uses_on}
use Rattle.desk_credits.proofs.tree.add_files.Goals as goal

pub loop-file-preserved : goal.loop-file-preserved
loop-file-preserved c =
    let had = c.loop-file.invariant.1 in
    let tree = tree_in c.args.tree.now in
    let files = c.args.files.now in
    let all = map first_in files in
    let file = c.file-item.result in
    let rest = drop (c.loop-file.file-index + 1) files in
    let uses = c.in_ok-add_file.ensures.added in (
      c.in_ok-add_file.ensures.known,
      (
        had.0 ++ uses.0,
        uses_on tree all (map first_in rest) (first_in file) had.0 uses.0
            (subst (λ (left : List First). (more : List Notice) → UsesIn tree (map first_in left) more
            → UsesIn tree all (had.0 ++ more))
            (drop_item files c.loop-file.file-index file c.loop-file-test.true c.file-item.is) had.1)
            uses.1,
        uses.2 ∙ ap (λ ns. with_notices ns uses.0) had.2
            ∙ sym (with_notices-append c.args.known.now.notices.items had.0 uses.0),
      ),
    )

pub returns-clause-added : goal.returns-clause-added
returns-clause-added c =
    let had = c.loop-file.invariant.1 in
    let tree = tree_in c.args.tree.now in
    let files = c.args.files.now in
    let none = drop_all c.loop-file.file-index files c.loop-file-test.false in (
      had.0,
      subst (UsesIn tree (map first_in files)) (append-nil had.0)
          (had.1 [] (subst (λ (left : List First). UsesIn tree (map first_in left) []) (sym none) refl)),
      had.2,
    )
