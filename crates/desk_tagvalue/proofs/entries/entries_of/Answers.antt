use Rattle.std.proofs.Common.{◌∙◌, ◌+◌, ◌≤◌, length, [], ◌∷◌, ◌++◌, ap, subst, append-nil, inr, arith}
use Rattle.std.specs.Prelude.{Some, Ok, Err, map}
use Rattle.desk_fields.specs.Cutting.{behind_mark}
use Rattle.desk_fields.specs.Found.{field_text}
use Rattle.desk_fields.specs.NextField.{FieldGiven}
use Rattle.desk_fields.proofs.Loops.{step_field, reads_end, reads_fault}
use Rattle.desk_base.specs.Limits.{document_bytes}
use Rattle.desk_tagvalue.specs.Entries.{entry_text}
use Rattle.desk_tagvalue.proofs.ReadLemmas.{one_entry_more}
use Rattle.desk_tagvalue.proofs.entries.entries_of.Goals as goal

pub loop-field-preserved : goal.loop-field-preserved
loop-field-preserved c =
    let it = c.loop-field.field-iterator in
    let new = c.next.new.self in
    let step = subst (λ f. FieldGiven it (Some f) new) c.in-Ok.is c.in-Some.ensures.steps in
    let old = c.loop-field.invariant in
    let room : new.line + length new.rest.now ≤ 1 + document_bytes = let a = old.0 in
    let b = step.1 in omega arith in
    let items = ap (map entry_text) c.in_ok-push-in-Ok.ensures.items
    ∙ one_entry_more c.loop-field.entries.items c.entry_of.result old.1 (field_text c.in-Ok.field)
    old.2 c.entry_of.ensures in (
      room,
      old.1 ++ (field_text c.in-Ok.field ∷ []),
      items,
      step_field (behind_mark c.args.text.now) old.1 it.line it.rest.now (field_text c.in-Ok.field)
          new.line new.rest.now step.0 old.3,
    )

pub returns-in-Err-clause-err : goal.returns-in-Err-clause-err
returns-in-Err-clause-err c =
    let it = c.loop-field.field-iterator in
    let step = subst (λ f. FieldGiven it (Some f) c.next.new.self) c.in-Err.is
    c.in-Some.ensures.steps in
    inr (c.loop-field.invariant.3 (Err c.in-Err.fault)
    (reads_fault it.line it.rest.now c.in-Err.fault step.0))

pub returns-clause-ok : goal.returns-clause-ok
returns-clause-ok c =
    let it = c.loop-field.field-iterator in
    let step = c.in-None.ensures.steps in
    let old = c.loop-field.invariant in (
      old.1,
      rw append-nil at (old.3 (Ok []) (reads_end it.line it.rest.now step.0 step.1)),
      ap (map entry_text) c.shrink_to_fit.ensures.items ∙ old.2,
    )
