use Rattle.std.proofs.Common.{sym, ap, ◌∙◌}
use Rattle.std.specs.Prelude.{slice_get}
use Rattle.std.specs.Option.{option_map}
use Rattle.desk_history.specs.FromTables.{rule_of}
use Rattle.desk_memory.specs.declared.keys.RulePlace.{RulePlace}
use Rattle.desk_sorted.proofs.Placing.{row_at, no_row}
use Rattle.desk_memory.proofs.Ruling.{rule_found}
use Rattle.desk_memory.proofs.rules.Rules.find.Goals as goal
use Rattle.desk_model.specs.Keys.{is_rule_at}

pub returns-in-Some : goal.returns-in-Some
returns-in-Some c =
    let revision = c.args.revision in
    let term = c.args.term.now in
    let form = c.args.form.now in
    let rows = c.args.self.now.rows.items in
    let place = c.in-Some.entry.now.place in
    let found =
    c.item_at.ensures
    ∙ (ap (λ xs. slice_get xs place) c.as_slice.ensures.value
    ∙ row_at (is_rule_at revision term form) place rows
    (sym (c.args.self.now.placed revision term form)
    ∙ ap (option_map (λ (entry : RulePlace). entry.place)) (sym c.in-Some.ensures))) in
    ap (option_map rule_of) found ∙ rule_found revision term form rows

pub returns-in-None : goal.returns-in-None
returns-in-None c =
    let revision = c.args.revision in
    let term = c.args.term.now in
    let form = c.args.form.now in
    let rows = c.args.self.now.rows.items in
    let none = no_row (is_rule_at revision term form) 0 rows
    (sym (c.args.self.now.placed revision term form)
    ∙ ap (option_map (λ (entry : RulePlace). entry.place)) (sym c.in-None.ensures)) in
    ap (option_map rule_of) (sym none) ∙ rule_found revision term form rows
