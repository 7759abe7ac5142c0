use Rattle.std.proofs.Common.{◌≡◌, ◌∙◌, ◌++◌, List, [], ◌∷◌, sym, ap, refl}
use Rattle.std.specs.String.{string_bytes}
use Rattle.std.proofs.lemmas.List.{append-nil, at_drop_all}
use Rattle.desk_model.specs.declared.command.DutyLine.{DutyLine}
use Rattle.desk_page.specs.Rows.{waiver_rows}
use Rattle.desk_page.proofs.duties.add_waivers.Goals as goal

nothing_more : (duties : List DutyLine) → waiver_rows duties [] ≡ []
nothing_more [] = refl
nothing_more (duty ∷ duties) = refl

pub returns : goal.returns
returns c =
    let text = string_bytes c.loop-steps.text in
    let none = at_drop_all (waiver_rows c.loop-steps.rest.now) c.args.changes.now
    c.loop-steps.steps-index c.loop-steps-test.false ∙ nothing_more c.loop-steps.rest.now in
    sym (append-nil text) ∙ ap (λ rows. text ++ rows) (sym none) ∙ c.loop-steps.invariant
