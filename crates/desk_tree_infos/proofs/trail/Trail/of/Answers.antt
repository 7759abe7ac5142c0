use Rattle.std.proofs.Common.{◌≡◌, ◌∙◌, ◌++◌, ◌∷◌, [], ℕ, List, ap, sym, map, Bor}
use Rattle.desk_tree_infos.specs.Folders.{kept_for}
use Rattle.desk_tree_infos.specs.Ways.{ways, lists_of}
use Rattle.desk_tree_infos.proofs.trail.Trail.of.Goals as goal

pub invariant_of-result : goal.invariant_of-result
invariant_of-result c =
    let root : Bor (List ℕ) = c.numbers_in.result in
    let lists = ◌∙◌ {A = List (Bor (List ℕ))} c.in_ok-push.ensures.items
    (ap (λ l. l ++ root ∷ []) c.new-lists.ensures.items) in
    let kept : lists_of c.push.new.self.items ≡ root.now ∷ [] = ap lists_of lists in
    let way : List ℕ → List (List ℕ) = λ path. map (kept_for c.args.folders.now) (ways path) in
    record {
      along = kept ∙ ap (λ l. l ∷ []) c.numbers_in.ensures
          ∙ sym (ap way c.new.ensures.items);
    }
