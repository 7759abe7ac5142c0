use Rattle.std.proofs.Common.{◌≡◌, ◌++◌, drop}
use Rattle.desk_base.specs.Borrowed.{texts}
use Rattle.serde_json.specs.View.{items_view}
use Rattle.desk_spdx_files.specs.Texts.{texts_by}
use Rattle.desk_spdx_files.specs.Files.{needed_ends}
use Rattle.desk_spdx_files.proofs.ties.add_all_ends.Given as goal

-- what was added and what is still to come is everything
abbrev pub invariant-loop-value : goal.invariant-loop-value
invariant-loop-value l =
    texts l.found.items ++ texts_by (needed_ends l.coded) (items_view (drop l.value-index l.list))
    ≡ texts l.initial.found.items ++ texts_by (needed_ends l.coded) (items_view l.list)
