use Rattle.std.proofs.Common.{◌∙◌, ◌++◌, ap, sym, map, take, subst}
use Rattle.desk_tree_infos.specs.Folders.{kept_for}
use Rattle.desk_tree_infos.specs.Information.{rests}
use Rattle.desk_tree_infos.specs.Ways.{way, ways, lists_of, Shares}
use Rattle.desk_tree_infos.proofs.WayLemmas.{kept-along}
use Rattle.desk_tree_infos.proofs.trail.Trail.to.Goals as goal

pub invariant_of-result : goal.invariant_of-result
invariant_of-result c =
    let trail = c.args.self.now in
    let kept = kept_for trail.folders.now in
    let path = c.as_bytes-path.result.now in
    let shares = subst (λ before. Shares before path c.shared_folders-same.result.0
    c.shared_folders-same.result.1.now) c.as_slice.ensures.value
    c.shared_folders-same.ensures.shares in
    record {
      along =
          c.in_ok-add_behind.ensures
          ∙ ap (λ l. lists_of l ++ map kept (map (way path) (rests
          c.shared_folders-same.result.1.now)))
          (c.truncate.ensures.items ∙ ap (take c.shared_folders-same.result.0)
          (c.in_ok-lists.ensures.items ∙ c.as_slice-2.ensures.value))
          ∙ kept-along kept trail.lists.items trail.path.items path
          c.shared_folders-same.result.1.now
          c.shared_folders-same.result.0 shares trail.along
          ∙ ap (λ p. map kept (ways p)) (sym c.in_ok-from_slice.ensures.items);
    }
