-- Duties that are moved by changes, a run of them at a time, the last one first.
use Rattle.std.proofs.Common.{◌≡◌, ◌∙◌, ◌++◌, List, ℕ, Ok, Err, Result, arith, sym}
use Rattle.std.specs.Result.{IsErrAnd}
use Rattle.sqlite.specs.State.{State}
use Rattle.desk_model.specs.Lists.{updated}
use Rattle.desk_model.specs.Tables.{Tables, moved_by, with_duty_state}
use Rattle.desk_model.specs.declared.command.Fault.{Fault}
use Rattle.desk_model.specs.declared.row.ChangeRow.{ChangeRow}
use Rattle.desk_model.specs.declared.state.DutyState.{DutyState}
use Rattle.desk_sql_layout.specs.Held.{rows_of}
use Rattle.desk_sql_write.specs.Runs.{Sets, is_numbered}
use Rattle.desk_sql_write.specs.Turning.{Turns}
use Rattle.desk_sql_write.proofs.Going.{along, as_turns, first_fails, next_turns}
use Rattle.desk_sql_write.proofs.RunLemmas.{moved_both}
use Rattle.desk_sql_write.proofs.Stands.{moved_stand}

-- tables with duties that are moved by these changes
abbrev pub moved : List ChangeRow → Tables → Tables
moved changes t = record t { duty = moved_by changes t.duty }

-- these changes set the duties of a run, after those of the changes behind them have been moved
pub run_moves : (run had : List ChangeRow) (first last : ℕ) (to : DutyState) {a b c : State}
    {r : Result (Unit {0}) Fault} → Sets run first last to
    → Turns rows_of (λ t. rows_of (moved had t)) 0 a b (Ok tt)
    → Turns rows_of (λ t. rows_of (record t {
      duty = updated (is_numbered first last) (with_duty_state to) t.duty;
    })) 0 b c r
    → Turns rows_of (λ t. rows_of (moved (run ++ had) t)) 0 a c r
run_moves run had first last to {a} {b} {c} {r} sets v w =
    let put = λ (t : Tables). record t {
      duty = updated (is_numbered first last) (with_duty_state to) t.duty;
    } in
    as_turns rows_of (λ t. rows_of (put (moved had t))) (λ t. rows_of (moved (run ++ had) t)) 0 a c
    r
    (λ t tree i. rows_of (record t {
      duty = (sym (sets (moved_by had t.duty)) ∙ sym (moved_both run had t.duty)) i;
    }) tree)
    (next_turns rows_of (λ t. rows_of (moved had t)) (λ t. rows_of (put (moved had t))) 0 a b c r
    (λ t before after. moved_stand had t before) v
    (along (moved had) rows_of (λ t. rows_of (put t)) 0 b c r w))

-- only the last of the changes could be made
pub moves_fail : (all some : List ChangeRow) {a b : State} {r : Result (Unit {0}) Fault}
    {fault : Fault} → IsErrAnd r (λ e. e ≡ fault)
    → Turns rows_of (λ t. rows_of (moved some t)) 0 a b (Err fault)
    → Turns rows_of (λ t. rows_of (moved all t)) 0 a b r
moves_fail all some {a} {b} {r} {fault} is v = first_fails rows_of (λ t. rows_of (moved some t))
    (λ t. rows_of (moved all t)) 0 0 a b r fault is (omega arith)
    (λ t before after. moved_stand some t before) v
