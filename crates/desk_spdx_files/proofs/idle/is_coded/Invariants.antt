use Rattle.std.proofs.Common.{◌≡◌, drop}
use Rattle.serde_json.specs.View.{items_view}
use Rattle.desk_spdx_files.specs.Files.{is_coded}
use Rattle.desk_spdx_files.proofs.idle.is_coded.Given as goal

-- the packages that are left decide
abbrev pub invariant-loop-owner : goal.invariant-loop-owner
invariant-loop-owner l = is_coded (items_view (drop l.owner-index l.packages))
    ≡ is_coded (items_view l.packages)
