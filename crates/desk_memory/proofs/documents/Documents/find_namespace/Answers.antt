use Rattle.std.proofs.Common.{sym, ap, ◌∙◌}
use Rattle.std.specs.Prelude.{slice_get}
use Rattle.std.specs.Option.{option_map}
use Rattle.desk_model.specs.Keys.{has_namespace}
use Rattle.desk_memory.specs.declared.keys.NamespacePlace.{NamespacePlace}
use Rattle.desk_sorted.proofs.Placing.{row_at, no_row}
use Rattle.desk_memory.proofs.documents.Documents.find_namespace.Goals as goal

pub returns-in-Some : goal.returns-in-Some
returns-in-Some c =
    let namespace = c.args.namespace.now in
    let rows = c.args.self.now.rows.rows.items in
    let place = c.in-Some.entry.now.place in
    c.item_at.ensures
    ∙ (ap (λ xs. slice_get xs place) c.as_slice.ensures.value
    ∙ row_at (has_namespace namespace) place rows
    (sym (c.args.self.now.placed namespace)
    ∙ ap (option_map (λ (entry : NamespacePlace). entry.place)) (sym c.in-Some.ensures)))

pub returns-in-None : goal.returns-in-None
returns-in-None c =
    let namespace = c.args.namespace.now in
    let rows = c.args.self.now.rows.rows.items in
    sym (no_row (has_namespace namespace) 0 rows
    (sym (c.args.self.now.placed namespace)
    ∙ ap (option_map (λ (entry : NamespacePlace). entry.place)) (sym c.in-None.ensures)))
