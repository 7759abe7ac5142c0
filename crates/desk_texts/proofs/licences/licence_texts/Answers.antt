use Rattle.std.proofs.Common.{◌∙◌, ℕ, List, [], map, ap, refl, subst, arith}
use Rattle.std.proofs.lemmas.List.{take_all}
use Rattle.desk_catalogue.specs.Reading.{catalogue_of}
use Rattle.desk_texts.specs.Catalogues.{AreTaken, licence_text_in}
use Rattle.desk_texts.proofs.Taking.{map_borrowed, next_id, none_asked}
use Rattle.desk_texts.proofs.licences.licence_texts.Goals as goal

pub loop-id-init : goal.loop-id-init
loop-id-init c = λ terms reads. none_asked _ _ c.new-2.ensures c.new.ensures.empty
    (λ id. c.in_ok-licences_of.ensures terms reads id)

pub loop-id-preserved : goal.loop-id-preserved
loop-id-preserved c = λ terms reads.
    let texts = licence_text_in (catalogue_of terms c.args.text.now) in
    subst (λ ids. AreTaken texts ids c.add.new.self)
    (next_id c.args.ids.now c.loop-id.id-index _ _ c.loop-id-test.true refl)
    (c.in_ok-add.ensures texts _ (c.loop-id.invariant terms reads))

pub returns : goal.returns
returns c = λ terms reads.
    let texts = licence_text_in (catalogue_of terms c.args.text.now) in
    (c.loop-id.invariant terms reads).found
    ∙ (ap (λ ids. map texts (map (λ id. id.now) ids))
    (take_all c.loop-id.id-index c.args.ids.now
    (omega (arith, c.loop-id.auto.id-index-end, c.loop-id-test.false)))
    ∙ map_borrowed texts c.args.ids.now)
