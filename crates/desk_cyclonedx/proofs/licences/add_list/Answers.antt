use Rattle.std.proofs.Common.{◌∙◌, ◌++◌, [], ap, false, true}
use Rattle.std.proofs.lemmas.Result.{on_ok_weaker}
use Rattle.std.specs.Prelude.{◌==◌}
use Rattle.serde_json.specs.View.{items_view}
use Rattle.desk_fields.specs.declared.tag.Tag.TheVariants as tags
use Rattle.desk_spdx_json.specs.Values.{items_steps}
use Rattle.desk_spdx_json.proofs.Added.{before}
use Rattle.desk_cyclonedx.specs.Licences.{count, item_steps, joined_onto, terms_steps}
use Rattle.desk_cyclonedx.proofs.licences.add_list.Goals as goal

pub returns : goal.returns
returns c =
    let at = c.args.at.now in
    let ds = items_view c.args.list.now in
    let items = items_steps (item_steps (count ds == 1)) at 0 ds in
    let declared = terms_steps at tags.PackageDeclared (joined_onto false [] ds) in
    on_ok_weaker c.add_items.result (λ told.
    before c.args.steps.now (terms_steps at tags.PackageConcluded (joined_onto true [] ds))
    (declared ++ items)
    (c.in_ok-add_terms.ensures
    ∙ ap (λ t. c.args.steps.now ++ terms_steps at tags.PackageConcluded t) c.in_ok-terms.ensures)
    (before c.add_terms.new.steps declared items
    (c.in_ok-add_terms-2.ensures
    ∙ ap (λ t. c.add_terms.new.steps ++ terms_steps at tags.PackageDeclared t)
    c.in_ok-terms-2.ensures)
    (told ∙ ap (λ b. c.add_terms-2.new.steps ++ items_steps (item_steps b) at 0 ds)
    c.is_alone.ensures)))
    c.add_items.ensures
