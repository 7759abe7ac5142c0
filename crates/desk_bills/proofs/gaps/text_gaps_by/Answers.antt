use Rattle.std.proofs.Common.{◌≡◌, ◌∙◌, map, ap}
use Rattle.std.specs.List.{flat_map}
use Rattle.desk_model.specs.Bills.{revision_text}
use Rattle.desk_model.specs.Gaps.{text_gaps}
use Rattle.desk_model.specs.Tables.{Tables}
use Rattle.desk_bills.specs.Billing.{licence_found, licence_ids}
use Rattle.desk_bills.proofs.Bodies.{read_then}
use Rattle.desk_bills.proofs.gaps.text_gaps_by.Goals as goal

pub returns-clause-found : goal.returns-clause-found
returns-clause-found g c = λ w right.
    let catalogue = λ (t : Tables). revision_text t.catalogue c.args.revision in
    let uses = c.args.uses.items in
    read_then _ _ _ c.in_ok-licences.licences
    (λ t. map (licence_found w (catalogue t)) (flat_map licence_ids uses)) c.text_gaps.result
    (λ t found u. found.items ≡ flat_map (text_gaps w (catalogue t) u.extracted) uses)
    c.in_ok-licences.ensures.kept
    (λ h t held. c.in_ok-licences.ensures.found w right h t held
    ∙ ap (λ xs. map (licence_found w (catalogue t)) (flat_map licence_ids xs))
    c.as_slice.ensures.value)
    c.text_gaps.ensures.kept
    (λ t is. c.text_gaps.ensures.found w (catalogue t) is)
