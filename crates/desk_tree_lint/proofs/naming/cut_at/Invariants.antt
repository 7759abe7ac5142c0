use Rattle.std.proofs.Common.{◌≡◌, ◌++◌, drop}
use Rattle.desk_base.specs.Borrowed.{texts, texts_in}
use Rattle.desk_tree_lint.specs.Naming.{cut_at}
use Rattle.desk_tree_lint.proofs.naming.cut_at.Given as goal

-- the pieces of what was cut, and of what is left, are all
abbrev pub invariant-loop-text : goal.invariant-loop-text
invariant-loop-text l = texts_in l.cut ++ cut_at l.separator (texts (drop l.text-index l.listed))
    ≡ cut_at l.separator (texts l.listed)
