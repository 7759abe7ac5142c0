use Rattle.std.proofs.Common.{sym, ◌∙◌, refl, ap}
use Rattle.std.specs.Prelude.{Some}
use Rattle.desk_fields.specs.declared.fault.DocFault.TheVariants as faults
use Rattle.desk_tagvalue.specs.Entries.{entry_text}
use Rattle.desk_tagvalue.specs.Seen.{newest}
use Rattle.desk_tagvalue.specs.Faults.{is_too_many, is_again, is_misspelt, names}
use Rattle.desk_tagvalue.specs.Sections.{id_form}
use Rattle.desk_tagvalue.proofs.SeenLemmas.{first_of_three, second_of_three, third_of_three, none_of_three}
use Rattle.desk_tagvalue.proofs.faults.place_fault.Goals as goal

pub returns-then-is_again : goal.returns-then-is_again
returns-then-is_again c =
    let b = newest c.args.before.now in
    let e = entry_text c.args.entry.now in
    ap (λ n. Some (faults.Repeated n e.tag)) c.from-line.ensures
    ∙ second_of_three (is_too_many b e) (is_again b e) _ _ _
    (sym (c.is_too_many.ensures e refl) ∙ c.if-is_too_many.false)
    (sym (c.is_again.ensures e refl) ∙ c.if-is_again.true)

pub returns-then-is_misspelt : goal.returns-then-is_misspelt
returns-then-is_misspelt c =
    let b = newest c.args.before.now in
    let e = entry_text c.args.entry.now in
    let form = c.id_form.ensures ∙ ap (λ k. id_form k e.tag) c.requires.kind in
    ap (λ n. Some (faults.BadId n)) c.from-line.ensures
    ∙ third_of_three (is_too_many b e) (is_again b e) (is_misspelt (names b e) e.value) _ _ _ _
    (sym (c.is_too_many.ensures e refl) ∙ c.if-is_too_many.false)
    (sym (c.is_again.ensures e refl) ∙ c.if-is_again.false)
    (sym (c.is_misspelt.ensures ∙ ap (λ f. is_misspelt f e.value) form) ∙ c.if-is_misspelt.true)

pub returns : goal.returns
returns c =
    let b = newest c.args.before.now in
    let e = entry_text c.args.entry.now in
    let form = c.id_form.ensures ∙ ap (λ k. id_form k e.tag) c.requires.kind in
    none_of_three (is_too_many b e) (is_again b e) (is_misspelt (names b e) e.value) _ _ _ _
    (sym (c.is_too_many.ensures e refl) ∙ c.if-is_too_many.false)
    (sym (c.is_again.ensures e refl) ∙ c.if-is_again.false)
    (sym (c.is_misspelt.ensures ∙ ap (λ f. is_misspelt f e.value) form) ∙ c.if-is_misspelt.false)

pub returns-then-is_too_many : goal.returns-then-is_too_many
returns-then-is_too_many c =
    let b = newest c.args.before.now in
    let e = entry_text c.args.entry.now in
    ap (λ n. Some (faults.TooManyElements n)) c.from-line.ensures
    ∙ first_of_three (is_too_many b e) _ _
    (sym (c.is_too_many.ensures e refl) ∙ c.if-is_too_many.true)
