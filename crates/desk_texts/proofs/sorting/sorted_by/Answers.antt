use Rattle.std.proofs.Common.{◌∙◌, sym, ap, subst}
use Rattle.desk_texts.specs.Rising.{Rises}
use Rattle.desk_texts.proofs.Halving.{lent, lent_ids, put_all_by, put_last, put_all_none}
use Rattle.desk_texts.proofs.sorting.sorted_by.Goals as goal

pub loop-part-init : goal.loop-part-init
loop-part-init g c =
    let id = g.P.Identified.id_of in
    record {
      put = ap (λ l. put_all_by id c.args.parts.now (lent id l)) c.new-sorted.ensures.items
          ∙ put_all_none id c.args.parts.now;
      rises = subst (λ l. Rises (lent_ids id l)) (sym c.new-sorted.ensures.items) tt;
    }

pub loop-part-preserved : goal.loop-part-preserved
loop-part-preserved g c =
    let id = g.P.Identified.id_of in
    record {
      put =
          ap (put_all_by id c.in-Some.front.now) c.in_ok-put_by.ensures.items
          ∙ (sym (put_last id c.in-Some.front.now c.in-Some.part.now
          (lent id c.loop-part.sorted.items))
          ∙ (ap (λ l. put_all_by id l (lent id c.loop-part.sorted.items))
          (sym c.in-Some.ensures.cases.0) ∙ c.loop-part.invariant.put));
      rises = c.in_ok-put_by.ensures.rises;
    }
