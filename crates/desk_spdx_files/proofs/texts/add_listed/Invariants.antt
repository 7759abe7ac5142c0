use Rattle.std.proofs.Common.{◌≡◌, ◌++◌, drop}
use Rattle.desk_base.specs.Borrowed.{texts}
use Rattle.serde_json.specs.View.{items_view}
use Rattle.desk_spdx_files.specs.Texts.{text_itself, texts_by}
use Rattle.desk_spdx_files.proofs.texts.add_listed.Given as goal

-- what was added and what is still to come is everything
abbrev pub invariant-loop-value : goal.invariant-loop-value
invariant-loop-value l =
    texts l.found.items ++ texts_by text_itself (items_view (drop l.value-index l.list))
    ≡ texts l.initial.found.items ++ texts_by text_itself (items_view l.list)
