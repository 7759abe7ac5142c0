use Rattle.std.proofs.Common.{[], ◌∷◌, ap, sym, subst, ◌∙◌, append-nil, inr}
use Rattle.std.specs.Prelude.{Some, Ok, Err, map}
use Rattle.std.proofs.lemmas.List.{map-append}
use Rattle.desk_fields.specs.Cutting.{Reads, behind_mark, with_front}
use Rattle.desk_fields.specs.Found.{field_text}
use Rattle.desk_fields.specs.NextField.{FieldGiven}
use Rattle.desk_fields.proofs.Loops.{step_field, reads_end, reads_fault}
use Rattle.desk_fields.proofs.scanner.fields.Goals as goal

pub loop-field-preserved : goal.loop-field-preserved
loop-field-preserved c =
    let it = c.loop-field.field-iterator in
    let new = c.next.new.self in
    let step = subst (λ f. FieldGiven it (Some f) new) c.in-Ok.is c.in-Some.ensures.steps in
    let whole = behind_mark c.args.text.now in
    let before = map field_text c.loop-field.found.items in
    let items = ap (map field_text) c.in_ok-push-in-Ok.ensures.items
    ∙ map-append field_text c.loop-field.found.items (c.in-Ok.field ∷ []) in
    λ r h. subst (λ l. Reads 1 whole (with_front l r)) (sym items)
    (step_field whole before it.line it.rest.now (field_text c.in-Ok.field) new.line new.rest.now
    step.0 c.loop-field.invariant r h)

pub returns-in-Err-clause-err : goal.returns-in-Err-clause-err
returns-in-Err-clause-err c =
    let it = c.loop-field.field-iterator in
    let step = subst (λ f. FieldGiven it (Some f) c.next.new.self) c.in-Err.is
    c.in-Some.ensures.steps in
    inr (c.loop-field.invariant (Err c.in-Err.fault)
    (reads_fault it.line it.rest.now c.in-Err.fault step.0))

pub returns-clause-ok : goal.returns-clause-ok
returns-clause-ok c =
    let it = c.loop-field.field-iterator in
    let step = c.in-None.ensures.steps in
    rw append-nil at (c.loop-field.invariant (Ok []) (reads_end it.line it.rest.now step.0 step.1))
