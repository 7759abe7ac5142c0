use Rattle.std.proofs.Common.{◌≡◌, ◌∙◌, true, rules, List, ℕ}
use Rattle.std.proofs.lemmas.List.Filters.{dedup_is}
use Rattle.std.proofs.lemmas.List.Kept.{Contains-dedup, Contains-from_dedup, IsStrictlySortedBy-dedup}
use Rattle.std.proofs.lemmas.List.Sorted.{Contains-permutation, IsPermutation-sym}
use Rattle.desk_tree_annotations.specs.contracts.shared.SharedTextOrd.TheImpl.Laws.{total-law, matches_eq-law}
use Rattle.desk_tree_annotations.specs.contracts.shared.SharedTextEq.TheImpl.Laws.{laws-law}
use Rattle.desk_tree_annotations.specs.contracts.shared.SharedTextPartialEq.TheImpl.{ghosts}
use Rattle.desk_tree_infos.proofs.AmongLemmas.{set_by_members}
use Rattle.desk_tree_infos.proofs.sets.shared_set.Goals as goal

same : (x y : List ℕ) → ghosts.eq x y ≡ true → x ≡ y
same x y h = search rules

pub returns : goal.returns
returns c =
    let is = dedup_is _ _ _ c.dedup.ensures.filtered in
    let moved = c.sort_unstable.ensures.permutation in
    let ordered = IsStrictlySortedBy-dedup total-law matches_eq-law c.sort_unstable.new.self.items
    c.sort_unstable.ensures.sorted in
    c.from_vec.ensures ∙ (c.shrink_to_fit.ensures.items ∙ (is
    ∙ set_by_members c.args.listed.items _ ordered
    (λ t at. Contains-permutation _ _ t (IsPermutation-sym _ _ moved)
    (Contains-from_dedup _ _ t at))
    (λ t at. Contains-dedup laws-law same c.sort_unstable.new.self.items t
    (Contains-permutation _ _ t moved at))))
