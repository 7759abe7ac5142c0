use Rattle.std.proofs.Common.{◌∙◌, ◌++◌, ◌∷◌, [], ◌<◌, ℕ, List, ap}
use Rattle.std.proofs.Common.{append_assoc, arith, get_or, length, map, sym, take}
use Rattle.std.proofs.lemmas.List.{map_more}
use Rattle.desk_base.specs.TextSets.{is_among}
use Rattle.desk_tree_lint.specs.Naming.{first_with, name_by}
use Rattle.desk_tree_lint.specs.declared.naming.Name.{Name}
use Rattle.desk_tree_lint.proofs.FirstLemmas.{here_among}
use Rattle.desk_tree_lint.proofs.naming.add_names.Goals as goal

pub loop-place-preserved : goal.loop-place-preserved
loop-place-preserved c = λ all ms holds are.
    let keys = c.args.keys.now in
    let i = c.loop-place.place in
    let within : i < length keys = omega (arith, c.loop-place-test.true, c.len-place-end.ensures) in
    let key = c.at-key.ensures in
    let first = c.first_of.ensures all ms holds
    (are _ (ap (is_among keys) key ∙ here_among keys i _ within)) in
    let name = ap (name_by c.at-key.result.now) first ∙ ap (λ k. name_by k (first_with k ms)) key in
    let old = c.args.names.now in
    let name_at : List ℕ → Name = λ k. name_by k (first_with k ms) in
    c.in_ok-add_name.ensures ∙ (λ j. c.loop-place.invariant all ms holds are j ++ name j ∷ [])
    ∙ append_assoc old (map name_at (take i keys)) (name_at (get_or keys i []) ∷ [])
    ∙ ap (λ l. old ++ l) (sym (map_more name_at keys i _ within))
