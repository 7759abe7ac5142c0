-- The release with a name, changed in its place.
use Rattle.std.proofs.Common.{◌≡◌, ◌∙◌, ℕ, ◌-◌, ◌++◌, true, List, take, drop, sym, ap}
use Rattle.std.specs.Prelude.{map, Vec}
use Rattle.std.specs.Vec.{with_items}
use Rattle.std.specs.declared.alloc.Global.{Global}
use Rattle.std.proofs.lemmas.List.{with_items_is}
use Rattle.desk_model.specs.Keys.{below_by, is_release}
use Rattle.desk_model.specs.Lists.{ascends, updated}
use Rattle.desk_model.specs.declared.row.ReleaseRow.{ReleaseRow}
use Rattle.desk_sorted.specs.Orders.{release_order}
use Rattle.desk_sorted.specs.Sides.{texts_meet}
use Rattle.desk_sorted.specs.Sorted.{IsRun}
use Rattle.desk_sorted.proofs.Ascending.{ascends-updated, KeepsPlaces}
use Rattle.desk_sorted.proofs.Halving.{run_changed, same_count}
use Rattle.desk_memory.specs.Sides.{release_side}

module _ (name : List ℕ) (change : ReleaseRow → ReleaseRow) (rows : Vec ReleaseRow Global)
    (seen lent part : List ReleaseRow) (low high : ℕ)
    (run : IsRun (release_side name) seen low high) (sees : seen ≡ rows.items)
    (lends : lent ≡ rows.items)
    (changes : part ≡ map change (take (high - low) (drop low lent))) where
  abbrev pub changed : Vec ReleaseRow Global
  changed = with_items rows (take low lent ++ (part ++ drop (high - low) (drop low lent)))

  pub release_changed : changed.items ≡ updated (is_release name) change rows.items
  release_changed =
      let written = run_changed (is_release name) (release_side name)
      (λ row. texts_meet row.name name) change rows.items seen lent part low high run sees lends
      changes in
      with_items_is rows _ (same_count (is_release name) change rows.items _ written
      ∙ sym rows.ok.0) ∙ written

  pub releases_ascend : KeepsPlaces (below_by release_order) change
      → ascends (below_by release_order) rows.items ≡ true
      → ascends (below_by release_order) changed.items ≡ true
  releases_ascend keeps up = ap (ascends (below_by release_order)) release_changed
      ∙ (ascends-updated (below_by release_order) (is_release name) change keeps rows.items ∙ up)
