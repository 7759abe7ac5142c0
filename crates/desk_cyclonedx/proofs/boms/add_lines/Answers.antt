use Rattle.std.proofs.Common.{◌∙◌, ◌++◌, ◌∷◌, [], ap, codes}
use Rattle.std.proofs.lemmas.Result.{on_ok_weaker}
use Rattle.serde_json.specs.View.{view}
use Rattle.desk_fields.specs.declared.tag.Tag.TheVariants as tags
use Rattle.desk_tagvalue.specs.Drafts.{one_line}
use Rattle.desk_spdx_json.specs.Documents.{document_id}
use Rattle.desk_spdx_json.proofs.Added.{before}
use Rattle.desk_cyclonedx.specs.Boms.{line_at, name_by, namespace_of}
use Rattle.desk_cyclonedx.specs.Placed.{root_of}
use Rattle.desk_cyclonedx.proofs.boms.add_lines.Goals as goal

pub returns : goal.returns
returns c =
    let d = view c.args.value.now in
    let version = line_at [] (one_line tags.Version (codes "SPDX-2.3")) in
    let data_license = line_at [] (one_line tags.DataLicense (codes "CC0-1.0")) in
    let id = line_at [] (one_line tags.Identifier document_id) in
    let name = line_at (codes "/metadata/component/name")
    (one_line tags.DocumentName (name_by d (root_of d))) in
    let namespace = line_at (codes "/serialNumber")
    (one_line tags.DocumentNamespace (namespace_of d)) in
    let creator = line_at [] (one_line tags.Creator (codes "Tool: licence-desk-1")) in
    on_ok_weaker c.add-6.result (λ told.
    before c.args.steps.now (version ∷ []) (data_license ∷ id ∷ name ∷ namespace ∷ creator ∷ [])
    c.in_ok-add.ensures
    (before c.add.new.self (data_license ∷ []) (id ∷ name ∷ namespace ∷ creator ∷ [])
    c.in_ok-add-2.ensures
    (before c.add-2.new.self (id ∷ []) (name ∷ namespace ∷ creator ∷ []) c.in_ok-add-3.ensures
    (before c.add-3.new.self (name ∷ []) (namespace ∷ creator ∷ [])
    (c.in_ok-add-4.ensures
    ∙ ap (λ text. c.add-3.new.self
    ++ line_at (codes "/metadata/component/name") (one_line tags.DocumentName text) ∷ [])
    (c.in_ok-name.ensures ∙ ap (name_by d) c.root_of.ensures))
    (before c.add-4.new.self (namespace ∷ []) (creator ∷ [])
    (c.in_ok-add-5.ensures
    ∙ ap (λ text. c.add-4.new.self
    ++ line_at (codes "/serialNumber") (one_line tags.DocumentNamespace text) ∷ [])
    c.in_ok-namespace.ensures)
    told)))))
    c.add-6.ensures
