use Rattle.std.proofs.Common.{◌∙◌, ◌++◌, ◌∷◌, [], ap, sym, subst}
use Rattle.desk_tagvalue.specs.Entries.{entry_text}
use Rattle.desk_tagvalue.specs.Sections.{id_form}
use Rattle.desk_tagvalue.specs.Seen.{newest, Knows}
use Rattle.desk_tagvalue.proofs.StepLemmas.{knows_inside, knows_begun}
use Rattle.desk_tagvalue.proofs.faults.step.Goals as goal

pub returns-in-None-clause-knows : goal.returns-in-None-clause-knows
returns-in-None-clause-knows c =
    let e = entry_text c.args.entry.now in
    let bs = newest c.args.before.now in
    let form = c.id_form-form.ensures ∙ ap (λ k. id_form k e.tag) c.requires.kind in
    knows_inside c.args.before.now c.args.entry.now c.args.seen.now c.note.new.ids c.requires
    (sym c.section_begun.ensures ∙ c.in-None.is) (c.in-Ok.ensures.holds bs form c.requires.ids)

pub returns-in-Some-section_begun-clause-knows : goal.returns-in-Some-section_begun-clause-knows
returns-in-Some-section_begun-clause-knows c =
    let e = entry_text c.args.entry.now in
    let bs = newest c.args.before.now in
    let form = c.id_form-form.ensures ∙ ap (λ k. id_form k e.tag) c.requires.kind in
    subst (Knows (c.args.before.now ++ (c.args.entry.now ∷ []))) (sym c.open_section.ensures)
    (knows_begun c.args.before.now c.args.entry.now c.args.seen.now c.note.new.ids
    c.in-Some-section_begun.kind c.requires
    (sym c.section_begun.ensures ∙ c.in-Some-section_begun.is)
    (c.in-Ok.ensures.holds bs form c.requires.ids))
