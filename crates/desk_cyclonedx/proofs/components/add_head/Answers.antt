use Rattle.std.proofs.Common.{◌∙◌, ◌++◌, ◌∷◌, [], ap, ap₂, codes}
use Rattle.std.proofs.lemmas.Result.{on_ok_weaker}
use Rattle.desk_fields.specs.declared.tag.Tag.TheVariants as tags
use Rattle.desk_tagvalue.specs.Drafts.{blank, one_line}
use Rattle.desk_spdx_json.specs.Steps.{member_at, put, step}
use Rattle.desk_spdx_json.proofs.Added.{before}
use Rattle.desk_cyclonedx.specs.Components.{full_name}
use Rattle.desk_cyclonedx.specs.Placed.{placed_text}
use Rattle.desk_cyclonedx.proofs.components.add_head.Goals as goal

pub returns : goal.returns
returns c =
    let p = placed_text c.args.placed.now in
    let at = c.as_str-at.ensures.value in
    let name = step (member_at p.at (codes "name")) (put (one_line tags.PackageName (full_name p.value))) in
    let id = step p.at (put (one_line tags.Identifier p.id)) in
    let source = step p.at (put (one_line tags.DownloadLocation (codes "NOASSERTION"))) in
    let files = step p.at (put (one_line tags.FilesAnalyzed (codes "false"))) in
    on_ok_weaker c.add-5.result (λ told.
    before c.args.steps.now (step [] (put blank) ∷ []) (name ∷ id ∷ source ∷ files ∷ [])
    c.in_ok-add.ensures
    (before c.add.new.self (name ∷ []) (id ∷ source ∷ files ∷ [])
    (c.in_ok-add-2.ensures
    ∙ ap₂ (λ place value. c.add.new.self ++ step place (put (one_line tags.PackageName value)) ∷ [])
    (c.deref.ensures ∙ c.in_ok-place.ensures
    ∙ ap (λ place. member_at place (codes "name")) at) c.in_ok-name.ensures)
    (before c.add-2.new.self (id ∷ []) (source ∷ files ∷ [])
    (c.in_ok-add-3.ensures
    ∙ ap₂ (λ place value. c.add-2.new.self ++ step place (put (one_line tags.Identifier value)) ∷ [])
    at (c.in_ok-id.ensures.ok ∙ c.as_str.ensures.value))
    (before c.add-3.new.self (source ∷ []) (files ∷ [])
    (c.in_ok-add-4.ensures
    ∙ ap (λ place. c.add-3.new.self
    ++ step place (put (one_line tags.DownloadLocation (codes "NOASSERTION"))) ∷ []) at)
    (told ∙ ap (λ place. c.add-4.new.self
    ++ step place (put (one_line tags.FilesAnalyzed (codes "false"))) ∷ []) at)))))
    c.add-5.ensures
