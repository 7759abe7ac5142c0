use Rattle.std.proofs.Common.{◌∙◌, ◌++◌, ap, map}
use Rattle.desk_base.specs.TextSets.{has_text}
use Rattle.serde_json.specs.View.{view}
use Rattle.desk_spdx_json.specs.Documents.{all_parts}
use Rattle.desk_spdx_json.specs.Elements.{element_text}
use Rattle.desk_spdx_json.specs.Kept.{kept_steps}
use Rattle.desk_spdx_json.specs.declared.parts.Part.TheVariants as parts
use Rattle.desk_spdx_json.proofs.Added.{before}
use Rattle.desk_spdx_json.proofs.documents.elements_by.Goals as goal

pub returns : goal.returns
returns c =
    let steps = kept_steps (has_text c.args.idle.now) in
    let at = c.args.at.now in
    let d = view c.args.value.now in
    let licences = all_parts steps parts.Extracted at d in
    let packages = all_parts steps parts.Package at d in
    let snippets = all_parts steps parts.Snippet at d in
    let files = all_parts steps parts.File at d in
    before (map element_text c.new-found.result.items) files (snippets ++ (packages ++ licences))
    c.in_ok-add_list.ensures
    (before (map element_text c.add_list.new.elements.items) snippets (packages ++ licences)
    c.in_ok-add_list-2.ensures
    (before (map element_text c.add_list-2.new.elements.items) packages licences
    c.in_ok-add_list-3.ensures c.in_ok-add_list-4.ensures))
    ∙ ap (λ found. map element_text found ++ (files ++ (snippets ++ (packages ++ licences))))
    c.new-found.ensures.items
