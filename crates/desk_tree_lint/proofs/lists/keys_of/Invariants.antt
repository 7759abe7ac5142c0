use Rattle.std.proofs.Common.{◌≡◌, take, map}
use Rattle.desk_tree_lint.specs.Texts.{TextFile}
use Rattle.desk_tree_lint.specs.Shown.{bytes_in, texts_in}
use Rattle.desk_tree_lint.proofs.lists.keys_of.Given as goal

abbrev pub invariant-loop-text : goal.invariant-loop-text
invariant-loop-text l = bytes_in l.keys
    ≡ map (λ (t : TextFile). t.key) (texts_in (take l.text-index l.listed))
