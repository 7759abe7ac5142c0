use Rattle.std.proofs.Common.{◌++◌, codes}
use Rattle.std.proofs.lemmas.Result.{on_ok_weaker}
use Rattle.desk_base.specs.TextSets.{has_text}
use Rattle.serde_json.specs.Find.{get}
use Rattle.serde_json.specs.View.{view}
use Rattle.desk_spdx_json.specs.Documents.{creation_steps, described_steps, elements_by, targets}
use Rattle.desk_spdx_json.specs.Elements.{merged}
use Rattle.desk_spdx_json.specs.Kept.{kept_relationship, kept_steps}
use Rattle.desk_spdx_json.specs.Members.{document_members}
use Rattle.desk_spdx_json.specs.Parts.{object_steps}
use Rattle.desk_spdx_json.specs.Steps.{member_at}
use Rattle.desk_spdx_json.specs.Values.{if_array}
use Rattle.desk_spdx_json.proofs.Added.{before}
use Rattle.desk_spdx_json.proofs.documents.add_kept.Goals as goal

pub returns : goal.returns
returns c =
    let at = c.args.at.now in
    let d = view c.args.value.now in
    let idle = has_text c.args.idle.now in
    let ties = if_array (kept_relationship idle) (member_at at (codes "relationships"))
    (get (codes "relationships") d) in
    let described = if_array (described_steps (targets d))
    (member_at at (codes "documentDescribes")) (get (codes "documentDescribes") d) in
    let elements = merged (elements_by (kept_steps idle) at d) in
    let creation = creation_steps (member_at at (codes "creationInfo"))
    (get (codes "creationInfo") d) in
    on_ok_weaker c.add_all_relationships.result (λ told.
    before c.args.steps.now (object_steps at document_members d)
    (creation ++ (elements ++ (described ++ ties))) c.in_ok-add_object.ensures
    (before c.add_object.new.steps creation (elements ++ (described ++ ties))
    c.in_ok-add_creation.ensures
    (before c.add_creation.new.steps elements (described ++ ties) c.in_ok-add_elements.ensures
    (before c.add_elements.new.steps described ties c.in_ok-add_all_described.ensures told))))
    c.add_all_relationships.ensures
