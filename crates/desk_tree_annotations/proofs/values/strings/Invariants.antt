use Rattle.std.proofs.Common.{◌≡◌, drop, ◌++◌, option_map}
use Rattle.toml.specs.View.{items_view}
use Rattle.desk_tree_annotations.specs.Values.{strings}
use Rattle.desk_tree_annotations.proofs.values.strings.Given as goal

-- the texts so far, and those of the rest, are those of all
abbrev pub invariant-loop-value : goal.invariant-loop-value
invariant-loop-value l = option_map (λ more. l.texts ++ more)
    (strings (items_view (drop l.value-index l.values))) ≡ strings (items_view l.values)
