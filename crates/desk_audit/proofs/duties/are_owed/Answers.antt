use Rattle.std.proofs.Common.{sym, ap, ◌∙◌, map, length}
use Rattle.std.specs.Prelude.{flat_map}
use Rattle.std.proofs.lemmas.List.{length-map}
use Rattle.desk_snapshot.specs.Conditions.{owed_by, owed_of}
use Rattle.desk_audit.specs.Owing.{are_alike}
use Rattle.desk_audit.proofs.OwedOrders.{judged, too_many}
use Rattle.desk_audit.proofs.duties.are_owed.Goals as goal

pub returns-in_default : goal.returns-in_default
returns-in_default c =
    let s = c.args.ruling.now.snapshot.now in
    too_many (flat_map (owed_by s) s.frozen) (map owed_of s.duty) (length s.duty)
    (rw (c.in_default.is, c.as_slice-rows.ensures, c.as_slice-duties.ensures) at
    c.in_ok-owed.ensures)
    (sym (length-map s.duty owed_of))

pub returns : goal.returns
returns c =
    let s = c.args.ruling.now.snapshot.now in
    judged (flat_map (owed_by s) s.frozen) (map owed_of s.duty)
    c.in-Some.owed.items c.sort_owed-owed.result.items c.in_ok-owed_of_all.field-0.items
    c.sort_owed-told.result.items
    (rw (c.in-Some.is, c.as_slice-rows.ensures) at c.in_ok-owed.ensures)
    (c.in_ok-owed_of_all.ensures ∙ ap (map owed_of) c.as_slice-duties.ensures)
    c.sort_owed-owed.ensures.permutation c.sort_owed-told.ensures.permutation
    c.sort_owed-owed.ensures.sorted
    c.sort_owed-told.ensures.sorted
    c.are_alike.result
    (c.are_alike.ensures ∙ (λ i. are_alike (c.deref.ensures.value i) (c.deref-2.ensures.value i)))
