use Rattle.std.proofs.Common.{◌∙◌, sym, ap}
use Rattle.desk_model.proofs.TextSets.{put_texts, put_texts-none, put_texts-last_borrowed, texts-insert_key}
use Rattle.desk_catalogue.proofs.order.sorted_set.Goals as goal
use Rattle.desk_base.specs.Borrowed.{texts}

pub loop-last-init : goal.loop-last-init
loop-last-init c = ap (λ ks. put_texts (texts c.args.listed.items) (texts ks))
    c.new-set.ensures.empty ∙ put_texts-none (texts c.args.listed.items)

pub loop-last-preserved : goal.loop-last-preserved
loop-last-preserved c =
    ap (put_texts (texts c.pop.new.self.items))
    (ap texts c.in_ok-insert.ensures.keys ∙ texts-insert_key c.loop-last.set.keys c.in-Some.last)
    ∙ (sym (put_texts-last_borrowed c.pop.new.self.items c.in-Some.last
    (texts c.loop-last.set.keys))
    ∙ (ap (λ xs. put_texts (texts xs) (texts c.loop-last.set.keys)) (sym c.in-Some.ensures.items)
    ∙ c.loop-last.invariant))
