use Rattle.std.proofs.Common.{◌≡◌, ◌∙◌, ap, sym, arith, length, map, vec_len, List}
use Rattle.desk_model.specs.Tables.{moved_by}
use Rattle.desk_model.specs.declared.row.DutyRow.{DutyRow}
use Rattle.desk_memory_rows.specs.declared.ledger.Place.{Place}
use Rattle.desk_memory_rows.specs.Ledgers.{all_of, place_of, standing_by}
use Rattle.desk_memory_rows.proofs.Pushing.{standing_moved, numbered-standing}
use Rattle.desk_memory_rows.proofs.Turns.{length-standing, within_places}
use Rattle.desk_memory_rows.proofs.ledger.Ledger.move_all.Goals as goal
use Rattle.desk_access.specs.Follows.{are_numbered}

pub push_all-requires-clause-places : goal.push_all-requires-clause-places
push_all-requires-clause-places c =
    let self = c.args.self.now in
    let changes = c.args.changes.items in
    let told : map place_of changes ≡ c.as_slice-2.result.now =
    ap (map place_of) (sym c.as_slice.ensures.value)
    ∙ (c.in_ok-places.ensures ∙ sym c.as_slice-2.ensures.value) in
    let count : length self.groups.items ≡ vec_len self.groups = omega (arith, self.groups.ok.0) in (
      told,
      within_places (vec_len self.groups) (length self.groups.items) (all_of self.groups.items)
          changes c.as_slice-2.result.now c.requires count told,
    )

pub set_states-requires-clause-within : goal.set_states-requires-clause-within
set_states-requires-clause-within c =
    let self = c.args.self.now in
    let changes = c.args.changes.items in
    let told : map place_of changes ≡ c.as_slice-3.result.now =
    ap (map place_of) (sym c.as_slice.ensures.value)
    ∙ (c.in_ok-places.ensures ∙ sym c.as_slice-3.ensures.value) in
    let count : length self.groups.items ≡ vec_len self.duties =
    omega (arith, self.paired, self.duties.ok.0) in
    within_places (vec_len self.duties) (length self.groups.items) (all_of self.groups.items)
    changes c.as_slice-3.result.now c.requires count told

pub returns-clause-duties : goal.returns-clause-duties
returns-clause-duties c =
    let rows : List DutyRow = c.args.self.now.duties.items in
    c.set_states.ensures
    ∙ (ap (λ (ps : List Place). standing_by ps rows)
    (c.as_slice-3.ensures.value ∙ sym c.in_ok-places.ensures)
    ∙ (standing_moved c.as_slice.result.now rows
    ∙ ap (λ cs. moved_by cs rows) c.as_slice.ensures.value))

pub invariant_of-self-2 : goal.invariant_of-self-2
invariant_of-self-2 c =
    let self = c.args.self.now in
    let groups = c.push_all.new.groups in
    let rows = c.set_states.new.rows in
    record {
      duties_numbered = ap (are_numbered 1) c.set_states.ensures
          ∙ numbered-standing c.as_slice-3.result.now 1 self.duties.items self.duties_numbered;
      changes_grouped = c.in_ok-push_all.ensures.grouped;
      paired = omega (
        arith,
        groups.ok.0,
        self.groups.ok.0,
        c.in_ok-push_all.ensures.len,
        self.paired,
        ap length c.set_states.ensures,
        length-standing c.as_slice-3.result.now self.duties.items,
      );
    }
