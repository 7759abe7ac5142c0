use Rattle.std.proofs.Common.{◌≡◌, ◌++◌, drop}
use Rattle.toml.specs.View.{items_view}
use Rattle.desk_lists.specs.Titles.{titles_of}
use Rattle.desk_lists.proofs.titles.titles_of.Given as goal

-- together with the titles from the index on, these are all titles
abbrev pub invariant-loop-value : goal.invariant-loop-value
invariant-loop-value l = l.titles.items ++ titles_of (items_view (drop l.value-index l.values))
    ≡ titles_of (items_view l.values)
