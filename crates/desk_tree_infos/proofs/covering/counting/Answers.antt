use Rattle.std.proofs.Common.{◌≡◌, ◌∙◌, ap, subst, map, List, ℕ}
use Rattle.std.specs.Prelude.{IfOk}
use Rattle.std.proofs.lemmas.Simd.{map-map}
use Rattle.desk_tree_infos.specs.declared.folders.Folders.{Folders}
use Rattle.desk_tree_infos.specs.Folders.{kept_for}
use Rattle.desk_tree_infos.specs.Information.{counting}
use Rattle.desk_tree_infos.specs.Sharing.{annotations_at}
use Rattle.desk_tree_infos.specs.Ways.{ways}
use Rattle.desk_tree_infos.proofs.covering.counting.Goals as goal

pub returns-clause-counting : goal.returns-clause-counting
returns-clause-counting c = λ r right tomls holds.
    let was = c.args.trail.now.folders.now in
    let all = was.all.items in
    let path = c.args.path.now in
    let same : c.as_slice.result.now ≡ all = c.as_slice.ensures.value
    ∙ ap (λ (f : Folders). f.all.items) c.in_ok-trail.ensures.same in
    subst (λ l. IfOk c.counting_along.result
    (λ v. annotations_at l v.items ≡ counting r tomls path)) same
    (c.counting_along.ensures r right tomls
    (ap (map (annotations_at c.as_slice.result.now))
    (c.lists.ensures ∙ (λ i. map (kept_for (c.in_ok-trail.ensures.same i))
    (ways (c.in_ok-trail.ensures.path i))))
    ∙ ap (λ l. map (annotations_at l) (map (kept_for was) (ways path))) same
    ∙ map-map (annotations_at all) (kept_for was) (ways path)
    ∙ (λ i. map (λ (folder : List ℕ). holds folder i) (ways path))))
