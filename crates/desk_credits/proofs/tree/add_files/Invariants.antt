use Rattle.std.proofs.Common.{◌≡◌, ◌++◌, List, drop, map}
use Rattle.desk_tree_gather.specs.Shown.{tree_in}
use Rattle.desk_tree_infos.specs.Firsts.{first_in}
use Rattle.desk_credits.specs.declared.notice.Notice.{Notice}
use Rattle.desk_credits.specs.Notices.{IsKnown, UsesIn, with_notices}
use Rattle.desk_credits.proofs.tree.add_files.Given as goal

-- the uses of the files so far, with those of the rest, are all, and the notices are theirs
abbrev pub invariant-loop-file : goal.invariant-loop-file
invariant-loop-file l = IsKnown l.known × ((before : List Notice)
    × ((more : List Notice) → UsesIn (tree_in l.tree) (map first_in (drop l.file-index l.files)) more
    → UsesIn (tree_in l.tree) (map first_in l.files) (before ++ more))
    × (l.known.notices.items ≡ with_notices l.initial.known.notices.items before))
