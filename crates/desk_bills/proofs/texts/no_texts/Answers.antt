use Rattle.std.proofs.Common.{◌∙◌, ◌++◌, ◌∷◌, [], None, ap, refl, replicate, arith}
use Rattle.std.proofs.lemmas.List.{replicate_more}
use Rattle.desk_bills.proofs.Bodies.{none_for}
use Rattle.desk_bills.proofs.texts.no_texts.Goals as goal

pub loop-preserved : goal.loop-preserved
loop-preserved c = c.in_ok-push.ensures.ok
    ∙ (ap (λ xs. xs ++ None ∷ []) c.loop.invariant ∙ replicate_more c.loop.index None)

pub returns : goal.returns
returns c = c.loop.invariant ∙ (ap (λ n. replicate n None)
    (omega (arith, c.loop.auto.index-end, c.loop-test.false)) ∙ none_for c.args.ids.now None refl)
