use Rattle.std.proofs.Common.{◌≡◌, ◌∙◌, ◌++◌, [], List, Ok, Err, ap, refl, subst, sym}
use Rattle.std.proofs.lemmas.List.{append_assoc, append-nil}
use Rattle.sqlite.specs.Held.{state}
use Rattle.desk_model.specs.Tables.{moved_by}
use Rattle.desk_model.specs.declared.row.ChangeRow.{ChangeRow}
use Rattle.desk_sql_layout.specs.Held.{rows_of}
use Rattle.desk_sql_write.specs.Turning.{Turns}
use Rattle.desk_sql_write.proofs.Going.{none_turns}
use Rattle.desk_sql_write.proofs.Moving.{moves_fail, run_moves}
use Rattle.desk_sql_write.proofs.duty.set_duties.Goals as goal

pub loop-these-init : goal.loop-these-init
loop-these-init g c = (
  [],
  record {
    whole = sym (append-nil c.args.rows.now);
    same_reference = refl;
    sets = none_turns rows_of (state g.S.Store c.args.tx.now.conn.now);
  },
)

pub loop-these-preserved : goal.loop-these-preserved
loop-these-preserved g c =
    let had = c.loop-these.invariant in
    let run = c.in-Some.these in
    let is = c.in-Some.ensures in (
      is.run ++ had.0,
      record {
        whole = had.1.whole ∙ (ap (λ (l : List ChangeRow). l ++ had.0) is.whole
            ∙ append_assoc run.before.now is.run had.0);
        same_reference = c.in_ok-set_run.ensures.same_reference ∙ had.1.same_reference;
        sets = run_moves is.run had.0 run.first run.last run.to {r = Ok tt} is.sets had.1.sets
            c.in_ok-set_run.ensures.sets;
      },
    )

pub returns-clause-sets : goal.returns-clause-sets
returns-clause-sets g c =
    let had = c.loop-these.invariant in
    let all : c.args.rows.now ≡ had.0 = had.1.whole
    ∙ ap (λ (l : List ChangeRow). l ++ had.0) c.in_default.ensures in
    subst (λ (rows : List ChangeRow). Turns rows_of
    (λ t. rows_of (record t { duty = moved_by rows t.duty })) 0
    (state g.S.Store c.args.tx.now.conn.now) (state g.S.Store c.loop-these.tx.conn.now) (Ok tt))
    (sym all) had.1.sets

pub returns-in_err-set_run-clause-sets : goal.returns-in_err-set_run-clause-sets
returns-in_err-set_run-clause-sets g c =
    let had = c.loop-these.invariant in
    let run = c.in-Some.these in
    let is = c.in-Some.ensures in
    moves_fail c.args.rows.now (is.run ++ had.0) c.from_residual.ensures.1
    (run_moves is.run had.0 run.first run.last run.to {r = Err c.in_err-set_run.field-0.0} is.sets
    had.1.sets c.in_err-set_run.ensures.sets)
