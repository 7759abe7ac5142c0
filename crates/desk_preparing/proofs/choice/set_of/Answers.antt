use Rattle.std.proofs.Common.{◌≡◌, ◌∙◌, ℕ, [], suc, ◌-◌, take, sym, ap, arith}
use Rattle.std.proofs.Math.Seq.{take-length}
use Rattle.desk_base.specs.Borrowed.{texts}
use Rattle.desk_model.specs.Texts.{put_new}
use Rattle.desk_model.proofs.TextSets.{put_texts, put_texts-none, put_texts-take, texts-insert_key}
use Rattle.desk_preparing.proofs.choice.set_of.Goals as goal

pub loop-i-init : goal.loop-i-init
loop-i-init c =
    let terms = c.args.terms.now in
    let keys = c.new-set.result.keys in
    ap (λ n. put_texts (take n terms) (texts keys)) c.len-i.ensures
    ∙ (ap (λ xs. put_texts xs (texts keys)) (take-length terms)
    ∙ (ap (λ ks. put_texts terms (texts ks)) c.new-set.ensures.empty ∙ put_texts-none terms))

pub loop-i-preserved : goal.loop-i-preserved
loop-i-preserved c =
    let terms = c.args.terms.now in
    let place : ℕ = c.loop-i.i - 1 in
    let set = texts c.loop-i.set.keys in
    let next : suc place ≡ c.loop-i.i = omega arith in
    ap (put_texts (take place terms))
    (ap texts c.in_ok-insert.ensures.keys ∙ texts-insert_key c.loop-i.set.keys c.at.result)
    ∙ (ap (λ term. put_texts (take place terms) (put_new term set)) c.at.ensures
    ∙ (sym (put_texts-take terms place [] set (omega arith))
    ∙ (ap (λ n. put_texts (take n terms) set) next ∙ c.loop-i.invariant)))
