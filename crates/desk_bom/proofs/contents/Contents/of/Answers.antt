use Rattle.std.proofs.Common.{◌≡◌, sym, subst, rules, true, refl}
use Rattle.std.specs.Prelude.{Contains}
use Rattle.std.proofs.lemmas.List.Filters.{dedup_is}
use Rattle.std.proofs.lemmas.List.Kept.{Contains-dedup, Contains-from_dedup, IsStrictlySortedBy-dedup}
use Rattle.std.proofs.lemmas.List.Sorted.{Contains-permutation, IsPermutation-sym}
use Rattle.desk_tagvalue.specs.Documents.{document_text}
use Rattle.desk_bom.specs.contracts.arrows.ArrowOrd.TheImpl.Laws.{total-law, matches_eq-law}
use Rattle.desk_bom.specs.contracts.arrows.ArrowEq.TheImpl.Laws.{laws-law}
use Rattle.desk_bom.specs.contracts.arrows.ArrowPartialEq.TheImpl.{ghosts}
use Rattle.desk_bom.specs.declared.arrows.Arrow.{Arrow}
use Rattle.desk_bom.specs.Contents.{contents}
use Rattle.desk_bom.specs.Targets.{Ascend}
use Rattle.desk_bom.proofs.AscendLemmas.{ascend_from_sorted}
use Rattle.desk_bom.proofs.contents.Contents.of.Goals as goal

same : (x y : Arrow) → ghosts.eq x y ≡ true → x ≡ y
same x y h = search rules

pub invariant_of-result : goal.invariant_of-result
invariant_of-result c =
    let is = dedup_is _ _ _ c.dedup.ensures.filtered in
    record {
      ascend = subst Ascend (sym is)
          (ascend_from_sorted _ (λ x y. refl) _
          (IsStrictlySortedBy-dedup total-law matches_eq-law c.sort.new.self.items
          c.in_ok-sort.ensures.sorted));
    }

pub returns : goal.returns
returns c = λ x.
    let is = dedup_is _ _ _ c.dedup.ensures.filtered in
    let moved = c.in_ok-sort.ensures.permutation in
    let got : c.add_tied.new.found.items ≡ contents (document_text c.args.document.now) =
    search rules in (
      (λ h. subst (λ l. Contains l x) got
          (Contains-permutation _ _ x (IsPermutation-sym _ _ moved)
          (Contains-from_dedup _ _ x (subst (λ l. Contains l x) is h)))),
      (λ h. subst (λ l. Contains l x) (sym is)
          (Contains-dedup laws-law same c.sort.new.self.items x
          (Contains-permutation _ _ x moved (subst (λ l. Contains l x) (sym got) h)))),
    )
