use Rattle.std.proofs.Common.{◌≡◌, ◌∙◌, ◌++◌, ◌∷◌, [], map, length, List, Ok, Err, refl, sym, ap, subst, arith}
use Rattle.std.proofs.lemmas.List.{map-append}
use Rattle.std.proofs.lemmas.List.{append-nil, nil_from_length}
use Rattle.sqlite.specs.Held.{state}
use Rattle.desk_sql_write.specs.Turning.{Adds, with_rows}
use Rattle.desk_sql_write.proofs.Behind.{front_fails, more_put, none_put}
use Rattle.desk_sql_write.proofs.Lists.{cut_in_two, more_added}
use Rattle.desk_sql_write.proofs.adding.add_in_eights.Goals as goal

pub loop-first-init : goal.loop-first-init
loop-first-init g c = (
  [],
  record {
    before = refl;
    same_reference = refl;
    adds = none_put g.R.AddedInEights.tree 0 (state g.S.Store c.args.tx.now.conn.now);
  },
)

pub loop-first-preserved-in_ok-add_eight-in-Some-split_at_checked : goal.loop-first-preserved-in_ok-add_eight-in-Some-split_at_checked
loop-first-preserved-in_ok-add_eight-in-Some-split_at_checked g c =
    let f = g.R.AddedInEights.cells in
    let had = c.loop-first.invariant in
    let left = c.loop-first.left.now in
    let eight = c.in-Some-split_at_checked.eight.now in
    let behind = c.in-Some-split_at_checked.behind.now in
    let parts = c.in-Some-split_at_checked.ensures.cases in
    let on = c.in_ok-add_eight-in-Some-split_at_checked.ensures in (
      had.0 ++ eight,
      record {
        before = more_added c.args.rows.now had.0 left eight behind had.1.before
            (cut_in_two 8 left eight behind parts.1 parts.2);
        same_reference = on.same_reference ∙ had.1.same_reference;
        adds = more_put g.R.AddedInEights.tree (map f) (map-append f) had.0 eight (omega arith)
            had.1.adds on.adds;
      },
    )

pub loop-first-preserved : goal.loop-first-preserved
loop-first-preserved g c =
    let f = g.R.AddedInEights.cells in
    let had = c.loop-first.invariant in
    let one = c.in-Some.first.now ∷ [] in
    let on = c.in_ok-add_one-in-None.ensures in (
      had.0 ++ one,
      record {
        before = more_added c.args.rows.now had.0 c.loop-first.left.now one c.in-Some.rest.now
            had.1.before c.in-Some.ensures.cases.0;
        same_reference = on.same_reference ∙ had.1.same_reference;
        adds = more_put g.R.AddedInEights.tree (map f) (map-append f) had.0 one (omega arith)
            had.1.adds on.adds;
      },
    )

pub returns-clause-adds : goal.returns-clause-adds
returns-clause-adds g c =
    let had = c.loop-first.invariant in
    let none = nil_from_length c.loop-first.left.now c.in_default.ensures.cases in
    let all : c.args.rows.now ≡ had.0 = had.1.before ∙ ap (λ l. had.0 ++ l) none
    ∙ append-nil had.0 in
    subst (λ (l : List _). Adds (with_rows g.R.AddedInEights.tree (map g.R.AddedInEights.cells l))
    (length l) (state g.S.Store c.args.tx.now.conn.now) (state g.S.Store c.loop-first.tx.conn.now)
    (Ok tt)) (sym all) had.1.adds

pub returns-in_err-add_eight-in-Some-split_at_checked-clause-adds : goal.returns-in_err-add_eight-in-Some-split_at_checked-clause-adds
returns-in_err-add_eight-in-Some-split_at_checked-clause-adds g c =
    let tree = g.R.AddedInEights.tree in
    let f = g.R.AddedInEights.cells in
    let rows = c.args.rows.now in
    let had = c.loop-first.invariant in
    let left = c.loop-first.left.now in
    let eight = c.in-Some-split_at_checked.eight.now in
    let behind = c.in-Some-split_at_checked.behind.now in
    let parts = c.in-Some-split_at_checked.ensures.cases in
    front_fails tree (map f) (map-append f) rows (had.0 ++ eight) behind
    {b = state g.S.Store c.add_eight.new.tx.conn.now}
    {fault = c.in_err-add_eight-in-Some-split_at_checked.field-0.0} c.from_residual.ensures.1
    (more_added rows had.0 left eight behind had.1.before
    (cut_in_two 8 left eight behind parts.1 parts.2))
    (more_put tree (map f) (map-append f) had.0 eight
    {c = state g.S.Store c.add_eight.new.tx.conn.now}
    {r = Err c.in_err-add_eight-in-Some-split_at_checked.field-0.0} (omega arith) had.1.adds
    c.in_err-add_eight-in-Some-split_at_checked.ensures.adds)

pub returns-in_err-add_one-in-None-clause-adds : goal.returns-in_err-add_one-in-None-clause-adds
returns-in_err-add_one-in-None-clause-adds g c =
    let tree = g.R.AddedInEights.tree in
    let f = g.R.AddedInEights.cells in
    let rows = c.args.rows.now in
    let had = c.loop-first.invariant in
    let one = c.in-Some.first.now ∷ [] in
    let rest = c.in-Some.rest.now in
    front_fails tree (map f) (map-append f) rows (had.0 ++ one) rest
    {b = state g.S.Store c.add_one.new.tx.conn.now} {fault = c.in_err-add_one-in-None.field-0.0}
    c.from_residual-in_err-add_one-in-None.ensures.1
    (more_added rows had.0 c.loop-first.left.now one rest had.1.before c.in-Some.ensures.cases.0)
    (more_put tree (map f) (map-append f) had.0 one
    {c = state g.S.Store c.add_one.new.tx.conn.now}
    {r = Err c.in_err-add_one-in-None.field-0.0} (omega arith) had.1.adds
    c.in_err-add_one-in-None.ensures.adds)
