use Rattle.std.proofs.Common.{◌≡◌, ◌++◌, drop}
use Rattle.serde_json.specs.View.{items_view}
use Rattle.desk_base.specs.Borrowed.{texts_in}
use Rattle.desk_spdx_json.specs.Documents.{targets_in}
use Rattle.desk_spdx_json.proofs.documents.targets_in.Given as goal

-- what was added and what is still to come is everything
abbrev pub invariant-loop-value : goal.invariant-loop-value
invariant-loop-value l = texts_in l.found ++ targets_in (items_view (drop l.value-index l.list))
    ≡ targets_in (items_view l.list)
