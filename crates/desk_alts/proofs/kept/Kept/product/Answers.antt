use Rattle.std.proofs.Common.{List, sym, ap, subst}
use Rattle.desk_alts.specs.declared.masks.Mask.{Mask}
use Rattle.desk_alts.specs.Masks.{IsAbove, union_masks}
use Rattle.desk_alts.proofs.Inserting.{from_nothing, above_permuted}
use Rattle.desk_alts.proofs.kept.Kept.product.Goals as goal

pub returns-clause-exact : goal.returns-clause-exact
returns-clause-exact c = λ m.
    let from = from_nothing c.new-kept.result c.insert_unions.new.self
    (IsAbove (union_masks c.deref.result.now)) c.new-kept.ensures
    c.in_ok-insert_unions.ensures.exact m in
    let moved = above_permuted c.in_ok-unions.unions.items c.sort_unstable.new.self.items
    c.sort_unstable.ensures.permutation m in
    let given = ap union_masks c.deref.ensures.value in
    let made = c.in_ok-unions.ensures m in (
      (λ h. made.0 (moved.1 (subst (λ (l : List Mask). IsAbove l m) given (from.0 h)))),
      (λ h. from.1 (subst (λ (l : List Mask). IsAbove l m) (sym given) (moved.0 (made.1 h)))),
    )
