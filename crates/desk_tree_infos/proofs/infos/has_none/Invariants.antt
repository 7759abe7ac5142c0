use Rattle.std.proofs.Common.{◌≡◌, ◌++◌, drop}
use Rattle.desk_tree_infos.specs.Sharing.{texts_at, is_none}
use Rattle.desk_tree_infos.proofs.infos.has_none.Given as goal

-- whether there are none depends only on the rest
abbrev pub invariant-loop-number : goal.invariant-loop-number
invariant-loop-number l = is_none
    (texts_at l.all l.of (drop l.number-index l.number-items) ++ l.sources.own.items)
    ≡ is_none (texts_at l.all l.of l.number-items ++ l.sources.own.items)
