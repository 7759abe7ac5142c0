use Rattle.std.proofs.Common.{◌∙◌, map, ap}
use Rattle.std.proofs.lemmas.Result.{IfOk-weaker}
use Rattle.desk_model.specs.Bills.{revision_text}
use Rattle.desk_bills.specs.Billing.{licence_found}
use Rattle.desk_bills.proofs.Bodies.{map_borrowed}
use Rattle.desk_bills.proofs.texts.licence_texts.Goals as goal

pub returns-clause-found : goal.returns-clause-found
returns-clause-found g c = λ w right.
    IfOk-weaker c.licences_found.result _ _
    (λ found told h t held.
    let text = licence_found w (revision_text t.catalogue c.args.revision) in
    told h t held ∙ (ap (map (λ id. text id.now)) c.as_slice.ensures.value
    ∙ (map_borrowed text c.in_ok-ids.ids.items ∙ ap (map text) c.in_ok-ids.ensures)))
    (c.licences_found.ensures.found w right)
