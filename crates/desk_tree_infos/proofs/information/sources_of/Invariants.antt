use Rattle.std.proofs.Common.{◌≡◌, drop}
use Rattle.std.specs.Prelude.{option_to_list}
use Rattle.desk_tree_infos.specs.Information.{given}
use Rattle.desk_tree_infos.specs.Sharing.{annotations_at, texts_at}
use Rattle.desk_tree_infos.proofs.Running.{running}
use Rattle.desk_tree_infos.proofs.information.sources_of.Given as goal

-- the texts so far, and what the rest adds to them, are those of all
abbrev pub invariant-loop-number : goal.invariant-loop-number
invariant-loop-number l =
    running l.of l.own.items (texts_at l.all l.of l.numbers.items)
    (texts_at l.all l.of (option_to_list l.closest))
    (annotations_at l.all (drop l.number-index l.counting))
    ≡ given l.of l.own.items (annotations_at l.all l.counting)
