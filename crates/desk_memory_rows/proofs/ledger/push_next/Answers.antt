use Rattle.std.proofs.Common.{◌≡◌, ◌∙◌, ◌+◌, ◌-◌, ◌<◌, ap, refl, sym, arith, length, List, ℕ}
use Rattle.desk_model.specs.declared.row.ChangeRow.{ChangeRow}
use Rattle.desk_memory_rows.specs.Ledgers.{grouped, all_of}
use Rattle.desk_memory_rows.proofs.Ledgering.{group_at, next_step, grouped-more, put_group}
use Rattle.desk_memory_rows.proofs.ledger.push_next.Goals as goal

pub returns-clause-put : goal.returns-clause-put
returns-clause-put c =
    let groups : List (List ChangeRow) = c.args.groups.now.items in
    let place : ℕ = c.args.change.duty - 1 in
    let duty : c.args.change.duty ≡ 1 + place = omega (arith, c.requires.low) in
    let next : c.args.change.step ≡ length (group_at groups place) + 1 =
    next_step c.args.change.duty place _ c.args.change.step groups c.requires.grouped duty refl
    c.requires.next in
    let lt : place < length groups =
    omega (arith, c.args.groups.now.ok.0, c.requires.low, c.requires.high) in
    ap all_of c.in_ok-push_change.ensures.ok
    ∙ sym (put_group 1 place groups c.args.change c.requires.grouped lt duty next)

pub returns-clause-grouped : goal.returns-clause-grouped
returns-clause-grouped c =
    let groups : List (List ChangeRow) = c.args.groups.now.items in
    let place : ℕ = c.args.change.duty - 1 in
    let duty : c.args.change.duty ≡ 1 + place = omega (arith, c.requires.low) in
    let next : c.args.change.step ≡ length (group_at groups place) + 1 =
    next_step c.args.change.duty place _ c.args.change.step groups c.requires.grouped duty refl
    c.requires.next in
    ap (grouped 1) c.in_ok-push_change.ensures.ok
    ∙ grouped-more 1 place groups c.args.change c.requires.grouped duty next
