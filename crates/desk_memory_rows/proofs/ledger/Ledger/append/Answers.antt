use Rattle.std.proofs.Common.{◌≡◌, ◌∙◌, ◌+◌, ◌++◌, ap, arith, length, length-append, List, true, ℕ, Bool}
use Rattle.std.specs.Prelude.{is_ok, if◌then◌else◌}
use Rattle.desk_model.specs.declared.row.ChangeRow.{ChangeRow}
use Rattle.desk_model.specs.declared.row.DutyRow.{DutyRow}
use Rattle.desk_access.specs.Follows.{are_first, are_numbered}
use Rattle.desk_memory_rows.specs.Ledgers.{grouped, AreSingles}
use Rattle.desk_memory_rows.proofs.Ledgering.{numbered_either, grouped-append}
use Rattle.desk_memory_rows.proofs.Turns.{append_numbered, append_first, append_paired, had_room}
use Rattle.desk_memory_rows.proofs.ledger.Ledger.append.Goals as goal

pub invariant_of-self-2 : goal.invariant_of-self-2
invariant_of-self-2 c =
    let self = c.args.self.now in
    let old : List DutyRow = self.duties.items in
    let more : List DutyRow = c.args.duties.items in
    let groups : List (List ChangeRow) = self.groups.items in
    let changes : List ChangeRow = c.args.changes.items in
    let fresh : are_numbered (1 + length old) more ≡ true =
    ap (λ (n : ℕ). are_numbered n more) (let e : 1 + length old ≡ length old + 1 = omega arith in e)
    ∙ append_numbered (length old) more changes c.requires in
    let first : are_first (1 + length groups) changes ≡ true =
    ap (λ (n : ℕ). are_first n changes)
    (let e : 1 + length groups ≡ length old + 1 = omega (arith, self.paired) in e)
    ∙ append_first (length old) more changes c.requires in
    let singles : AreSingles (1 + length groups) changes c.in_ok-groups.groups.items =
    c.in_ok-groups.ensures (1 + length groups) first in
    let room : is_ok c.append-2.result ≡ true =
    had_room c.append-2.result (c.append-2.ensures.succeeds
    (omega (arith, c.in_ok-reserve.ensures.ok, c.len.ensures))) in
    let rows : c.append-2.new.self.items ≡ c.reserve.new.self.items ++ more =
    c.append-2.ensures.items ∙ ap (λ (b : Bool). if b then c.reserve.new.self.items ++ more
    else c.reserve.new.self.items) room in
    record {
      duties_numbered = ap (are_numbered 1) c.append-2.ensures.items
          ∙ (ap (λ (rows : List DutyRow). are_numbered 1
          (if is_ok c.append-2.result then rows ++ more else rows)) c.in_ok-reserve.ensures.items
          ∙ numbered_either (is_ok c.append-2.result) old more self.duties_numbered fresh);
      changes_grouped = ap (grouped 1) c.in_ok-append.ensures.items
          ∙ grouped-append 1 groups c.in_ok-groups.groups.items self.changes_grouped singles.0;
      paired = omega (
        arith,
        self.paired,
        singles.2,
        append_paired (length old) more changes c.requires,
        ap length c.in_ok-append.ensures.items,
        length-append groups c.in_ok-groups.groups.items,
        ap length rows,
        length-append c.reserve.new.self.items more,
        ap length c.in_ok-reserve.ensures.items,
      );
    }
