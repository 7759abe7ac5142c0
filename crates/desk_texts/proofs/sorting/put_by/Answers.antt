use Rattle.std.proofs.Common.{◌∙◌, sym, ap, subst, drop}
use Rattle.desk_texts.specs.Rising.{IsLower, is_below_first}
use Rattle.desk_texts.proofs.Halving.{lent, lent_first, lent_ids, lent_new, lent_old, lent_rises}
use Rattle.desk_texts.proofs.sorting.put_by.Goals as goal

pub returns-then-is_new-clause-items : goal.returns-then-is_new-clause-items
returns-then-is_new-clause-items g c =
    let id = g.P.Identified.id_of in
    let items = c.args.sorted.now.items in
    let new = ap (λ t. is_below_first t (drop 0 (lent_ids id items))) (sym c.id-id.ensures)
    ∙ (sym c.is_new.ensures ∙ c.if-is_new.true) in
    ap (lent id) c.in_ok-push_front.ensures.items ∙ lent_first id c.args.part items new

pub returns-then-is_new-clause-rises : goal.returns-then-is_new-clause-rises
returns-then-is_new-clause-rises g c = lent_rises g.P.Identified.id_of c.args.part.now
    c.args.sorted.now.items c.push_front.new.self.items c.requires
    (returns-then-is_new-clause-items g c)

pub returns-in_ok-insert-clause-items : goal.returns-in_ok-insert-clause-items
returns-in_ok-insert-clause-items g c =
    let id = g.P.Identified.id_of in
    let n = c.lower-place.result in
    let items = c.args.sorted.now.items in
    let at = subst (λ t. IsLower (lent_ids id items) t n) c.id-id.ensures c.lower-place.ensures in
    let new = ap (λ t. is_below_first t (drop n (lent_ids id items))) (sym c.id-id.ensures)
    ∙ (sym c.is_new-2.ensures ∙ c.if-is_new-2.true) in
    ap (lent id) c.in_ok-insert.ensures.items ∙ lent_new id c.args.part items n at new

pub returns-in_ok-insert-clause-rises : goal.returns-in_ok-insert-clause-rises
returns-in_ok-insert-clause-rises g c = lent_rises g.P.Identified.id_of c.args.part.now
    c.args.sorted.now.items c.insert.new.self.items c.requires
    (returns-in_ok-insert-clause-items g c)

pub returns-else-is_new-2-clause-items : goal.returns-else-is_new-2-clause-items
returns-else-is_new-2-clause-items g c =
    let id = g.P.Identified.id_of in
    let n = c.lower-place.result in
    let items = c.args.sorted.now.items in
    let at = subst (λ t. IsLower (lent_ids id items) t n) c.id-id.ensures c.lower-place.ensures in
    let old = ap (λ t. is_below_first t (drop n (lent_ids id items))) (sym c.id-id.ensures)
    ∙ (sym c.is_new-2.ensures ∙ c.if-is_new-2.false) in
    lent_old id c.args.part items n at old
