use Rattle.std.proofs.Common.{◌∙◌, ◌+◌, ◌≤◌, take, drop, flat_map, length, List, Ok, Err, refl, sym}
use Rattle.std.proofs.Common.{subst, arith}
use Rattle.std.proofs.lemmas.Grind.{flat_map-append}
use Rattle.std.proofs.lemmas.List.{take-append-drop, take_all}
use Rattle.sqlite.specs.Held.{state}
use Rattle.desk_sql_write.specs.Turning.{Adds, with_rows}
use Rattle.desk_sql_write.proofs.Behind.{front_fails, next_put, none_put}
use Rattle.desk_sql_write.proofs.adding.add_all.Goals as goal

pub loop-row-init : goal.loop-row-init
loop-row-init g c =
    let a = state g.S.Store c.args.tx.now.conn.now in
    record { same_reference = refl; adds = none_put g.R.Added.tree 0 a }

pub loop-row-preserved : goal.loop-row-preserved
loop-row-preserved g c = record {
  same_reference = c.in_ok-add.ensures.same_reference ∙ c.loop-row.invariant.same_reference;
  adds = next_put g.R.Added.tree g.R.Added.rows c.args.rows.now c.loop-row.row-index
      c.row-item.result c.row-item.is c.loop-row-test.true c.loop-row.invariant.adds
      c.in_ok-add.ensures.adds;
}

pub returns-clause-adds : goal.returns-clause-adds
returns-clause-adds g c =
    let rows = c.args.rows.now in
    let n = c.loop-row.row-index in
    let high : length rows ≤ n = omega (arith, c.loop-row-test.false) in
    subst (λ (l : List _). Adds (with_rows g.R.Added.tree (flat_map g.R.Added.rows l)) (length l)
    (state g.S.Store c.args.tx.now.conn.now) (state g.S.Store c.loop-row.tx.conn.now) (Ok tt))
    (take_all n rows high) c.loop-row.invariant.adds

pub returns-in_err-add-clause-adds : goal.returns-in_err-add-clause-adds
returns-in_err-add-clause-adds g c =
    let rows = c.args.rows.now in
    let n = c.loop-row.row-index in
    let tree = g.R.Added.tree in
    let f = g.R.Added.rows in
    front_fails tree (flat_map f) (flat_map-append f) rows (take (n + 1) rows) (drop (n + 1) rows)
    c.from_residual.ensures.1 (sym (take-append-drop (n + 1) rows))
    (next_put tree f rows n c.row-item.result {r = Err c.in_err-add.field-0.0} c.row-item.is
    c.loop-row-test.true c.loop-row.invariant.adds c.in_err-add.ensures.adds)
