use Rattle.std.proofs.Common.{◌≡◌, inl, of_z, pos, rules, subst, sym, to_z, w64}
use Rattle.std.proofs.lemmas.Result.{IfOk-weaker}
use Rattle.desk_base.specs.declared.profile.Profile.{Profile}
use Rattle.desk_findings.specs.Fields.{IsReading}
use Rattle.desk_views.specs.Proposals.{HasLines}
use Rattle.desk_tagvalue.specs.Documents.{document_text}
use Rattle.desk_tagvalue.specs.Parts.{DocumentText}
use Rattle.desk_views.proofs.proposing.propose_held.Goals as goal

pub returns-in_ok-document-in-Ok-clause-told : goal.returns-in_ok-document-in-Ok-clause-told
returns-in_ok-document-in-Ok-clause-told g c = λ w reads right is.
    let number : to_z w64 (of_z w64 c.from.result) ≡ pos c.args.number = search rules in
    let again : to_z w64 (of_z w64 c.from-in-Ok.result) ≡ pos c.args.number = search rules in
    let held = simp number at c.in_ok-document-in-Ok.ensures in
    let profile = simp again at c.profile_at-profile.ensures in
    let reading = subst (λ (p : Profile). IsReading p reads) (sym profile) is in
    IfOk-weaker c.write_proposals-status.result _ _
    (λ status h. (
      h.0,
      inl (
        document_text c.in-Ok.document,
        c.in-Ok.ensures.ok,
        subst (λ (d : DocumentText). HasLines reads c.args.number d h.0 status) held h.1,
      ),
      h.2,
    ))
    (c.write_proposals-status.ensures.told reads reading)
