use Rattle.std.proofs.Common.{rules, ◌<◌, length, IfSome, arith}
use Rattle.std.specs.Prelude.{Some, None}
use Rattle.desk_fields.specs.NextField.{here}
use Rattle.desk_fields.proofs.Loops.{reaches_next}
use Rattle.desk_fields.proofs.scan.first_field.Goals as goal

pub loop-found-init : goal.loop-found-init
loop-found-init c = record {
  utf8 = c.utf8.text;
  room = omega arith;
  part = omega arith;
  less = tt;
  reaches = here;
}

pub loop-found-preserved : goal.loop-found-preserved
loop-found-preserved c =
    let old = c.loop-found.invariant in
    let room = c.in-Ok.ensures.room in
    record {
      utf8 = c.in-Ok.ensures.utf8;
      room = let a = old.room in let b = room.0 in omega arith;
      part = let a = old.part in let b = room.1 in omega arith;
      less = elim c.in-Ok.piece.field as
          (λ o. IfSome o (λ _. length c.in-Ok.piece.rest.now < length c.args.text.now)) [
            | None ↦ tt
            | Some x ↦ let a = old.part in let b = room.1 in omega arith
          ];
      reaches = reaches_next c.args.line c.args.text.now c.loop-found.found c.in-Ok.piece
          (search rules) old.reaches c.in-Ok.ensures.ok;
    }
