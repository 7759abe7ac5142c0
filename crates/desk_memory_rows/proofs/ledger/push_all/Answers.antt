use Rattle.std.proofs.Common.{◌≡◌, ◌∙◌, ◌+◌, List, ap, sym, subst, drop, length, true, vec_len, ℕ, arith}
use Rattle.std.specs.List.{list_all}
use Rattle.std.specs.Result.{is_err}
use Rattle.desk_model.specs.declared.row.ChangeRow.{ChangeRow}
use Rattle.desk_memory_rows.specs.declared.ledger.Place.{Place}
use Rattle.desk_memory_rows.specs.Ledgers.{AreWithin, all_of, are_in_turn, grouped, is_within}
use Rattle.desk_memory_rows.proofs.Pushing.{told_drop, rest_of, from_err, from_ok, pushed_step, within_drop}
use Rattle.desk_memory_rows.proofs.Turns.{last_turn, left_turn}
use Rattle.desk_memory_rows.proofs.ledger.push_all.Goals as goal

pub push_next-requires-clause-low : goal.push_next-requires-clause-low
push_next-requires-clause-low c =
    let groups = c.loop-change.groups in
    let turn = subst (λ (rows : List ChangeRow). are_in_turn 0 (vec_len groups)
    (all_of groups.items) rows ≡ true) c.in-Some.ensures.items c.loop-change.invariant.turn in
    omega (
      arith,
      (last_turn 0 (vec_len groups) (all_of groups.items) c.pop.new.self.items c.in-Some.change
          turn).0,
    )

pub push_next-requires-clause-high : goal.push_next-requires-clause-high
push_next-requires-clause-high c =
    let groups = c.loop-change.groups in
    let turn = subst (λ (rows : List ChangeRow). are_in_turn 0 (vec_len groups)
    (all_of groups.items) rows ≡ true) c.in-Some.ensures.items c.loop-change.invariant.turn in
    (last_turn 0 (vec_len groups) (all_of groups.items) c.pop.new.self.items c.in-Some.change
    turn).1

pub push_next-requires-clause-next : goal.push_next-requires-clause-next
push_next-requires-clause-next c =
    let groups = c.loop-change.groups in
    let turn = subst (λ (rows : List ChangeRow). are_in_turn 0 (vec_len groups)
    (all_of groups.items) rows ≡ true) c.in-Some.ensures.items c.loop-change.invariant.turn in
    (last_turn 0 (vec_len groups) (all_of groups.items) c.pop.new.self.items c.in-Some.change
    turn).2

pub pop_all-requires : goal.pop_all-requires
pop_all-requires c =
    let places : List Place = c.args.places.now in
    let k = c.len.result + 1 in
    let n = vec_len c.push_next.new.groups in
    let same : vec_len c.args.groups.now ≡ n =
    sym (c.push_next.ensures.len ∙ c.loop-change.invariant.len) in
    ap (list_all (is_within n)) (rest_of places k)
    ∙ subst (λ (m : ℕ). AreWithin m (drop k places)) same
    (within_drop (vec_len c.args.groups.now) k places c.requires.places.1)

pub loop-change-preserved : goal.loop-change-preserved
loop-change-preserved c =
    let groups = c.loop-change.groups in
    let later = c.push_next.new.groups in
    let more = from_ok c.push_next.result (sym (ap is_err c.in_default-push_next.is))
    c.push_next.ensures.ok in
    let put = from_ok c.push_next.result (sym (ap is_err c.in_default-push_next.is))
    c.push_next.ensures.put in
    record {
      pushed = pushed_step c.args.changes.items c.loop-change.changes.items c.pop.new.self.items
          c.in-Some.change c.args.groups.now.items groups.items later.items
          c.loop-change.invariant.pushed c.in-Some.ensures.items more put
          c.push_next.ensures.grouped;
      len = c.push_next.ensures.len ∙ c.loop-change.invariant.len;
      turn = ap (λ (n : ℕ). are_in_turn 0 n (all_of later.items) c.pop.new.self.items)
          c.push_next.ensures.len
          ∙ left_turn (vec_len groups) groups.items later.items c.pop.new.self.items
          c.loop-change.changes.items c.in-Some.change c.in-Some.ensures.items more
          c.loop-change.invariant.turn;
    }

pub returns-in-Err-clause-err : goal.returns-in-Err-clause-err
returns-in-Err-clause-err c =
    let has = c.loop-change.invariant.pushed in
    let places : List Place = c.args.places.now in
    let count : length c.pop.new.self.items ≡ c.len.result =
    omega (arith, c.len.ensures, c.pop.new.self.ok.0) in
    let told = told_drop c.args.changes.items c.loop-change.changes.items c.pop.new.self.items
    c.in-Some.change c.args.groups.now.items c.loop-change.groups.items places has
    c.in-Some.ensures.items c.requires.places.0 in
    c.pop_all.ensures.undone c.args.groups.now.items has.done
    (told ∙ (ap (λ (k : ℕ). drop (k + 1) places) count ∙ sym (rest_of places (c.len.result + 1))))
    (from_err c.push_next.result (sym (ap is_err c.in-Err.is)) c.push_next.ensures.err ∙ has.is)

pub returns-in-Err-clause-grouped : goal.returns-in-Err-clause-grouped
returns-in-Err-clause-grouped c = ap (grouped 1) (returns-in-Err-clause-err c) ∙ c.requires.grouped
