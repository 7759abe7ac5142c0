use Rattle.std.proofs.Common.{◌≡◌, ◌++◌, codes, drop}
use Rattle.desk_base.specs.Borrowed.{texts}
use Rattle.serde_json.specs.View.{items_view}
use Rattle.desk_spdx_files.specs.Texts.{listed_in, texts_by}
use Rattle.desk_spdx_files.proofs.idle.add_files.Given as goal

-- what was added and what is still to come is everything
abbrev pub invariant-loop-owner : goal.invariant-loop-owner
invariant-loop-owner l =
    texts l.found.items ++ texts_by (listed_in (codes "hasFiles")) (items_view (drop l.owner-index l.packages))
    ≡ texts l.initial.found.items ++ texts_by (listed_in (codes "hasFiles")) (items_view l.packages)
