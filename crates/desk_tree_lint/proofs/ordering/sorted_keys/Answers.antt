use Rattle.std.proofs.Common.{◌∙◌, ap, sym, List, ℕ}
use Rattle.std.specs.Cmp.Lexicographic.{on_texts, on_texts_equal, texts_ties}
use Rattle.std.proofs.lemmas.Cmp.{nat_list_eq_equiv}
use Rattle.std.proofs.lemmas.List.Filters.{dedup_is}
use Rattle.std.proofs.lemmas.List.Kept.{Any-dedup, Contains-from_dedup, IsStrictlySortedBy-dedup}
use Rattle.std.proofs.lemmas.List.Sorted.{Contains-permutation, IsPermutation-sym}
use Rattle.std.specs.Str.{bytes_eq}
use denote.Ref.{Bor}
use Rattle.desk_base.specs.Borrowed.{texts}
use Rattle.desk_base.proofs.Bools.{same_answer}
use Rattle.desk_model.specs.Texts.{sorted_set}
use Rattle.desk_tree_infos.proofs.AmongLemmas.{among-set, set_sorted, sorted_once}
use Rattle.desk_tree_lint.proofs.OrderLemmas.{among_at, among_from, sorted_texts}
use Rattle.desk_tree_lint.proofs.ordering.sorted_keys.Goals as goal

pub returns : goal.returns
returns c =
    let now : Bor (List ℕ) → List ℕ = λ x. x.now in
    let listed = c.in_ok-keys.keys.items in
    let is = dedup_is _ _ _ c.dedup.ensures.filtered in
    let moved = c.sort_unstable.ensures.permutation in
    let up = IsStrictlySortedBy-dedup (on_texts now) (λ x y. texts_ties x.now y.now) _
    c.sort_unstable.ensures.sorted in
    ap texts is
    ∙ sorted_once _ (sorted_set (texts listed)) (sorted_texts now _ up) (set_sorted (texts listed))
    (λ key. same_answer _ _
    (λ has.
    let found = among_from now _ key has in
    let at = Contains-permutation _ _ found.0 (IsPermutation-sym _ _ moved)
    (Contains-from_dedup _ _ found.0 found.1) in
    among_at now listed key at.0 found.0 at.1
    (ap (λ (x : Bor (List ℕ)). bytes_eq x.now key) at.2 ∙ found.2))
    (λ has.
    let found = among_from now listed key has in
    let kept = Any-dedup (on_texts_equal now) c.sort_unstable.new.self.items found.0
    (Contains-permutation _ _ found.0 moved found.1) in
    among_at now _ key kept.0 kept.1 kept.2
    (ap (λ (x : Bor (List ℕ)). bytes_eq x.now key) kept.3
    ∙ sym (nat_list_eq_equiv.congr found.0.now kept.1.now key kept.4) ∙ found.2))
    ∙ sym (among-set (texts listed) key))
    ∙ ap sorted_set c.in_ok-keys.ensures
