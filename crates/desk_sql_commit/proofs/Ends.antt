-- A transaction fails only for a cause if its writes and its commit do.
use Rattle.std.proofs.Common.{◌≡◌, ◌∙◌, inl, inr, Bool, false, true, IfErr, Ok, Err, Result, refl, subst, sym, arith}
use Rattle.std.specs.Result.{IsErrAnd}
use Rattle.sqlite_trees.specs.Tree.{Trees}
use Rattle.sqlite_trees.specs.declared.store.Store.{Ghosts}
use Rattle.sqlite.specs.declared.error.Error.{Error}
use Rattle.sqlite.specs.Held.{Held, state}
use Rattle.sqlite.specs.State.{State, HasCleanDisk, Shows, Survives}
use Rattle.desk_model.specs.Tables.{applied}
use Rattle.sqlite.specs.Steps.{FailsToCommit}
use Rattle.desk_model.specs.declared.command.Change.{Change}
use Rattle.desk_model.specs.declared.command.Fault.{Fault}
use Rattle.desk_sql_layout.specs.Faults.{fault_by}
use Rattle.desk_sql_layout.specs.Held.{HasRows, rows_of}
use Rattle.desk_sql_layout.proofs.Clean.{clean_before}
use Rattle.desk_sql_commit.specs.Committing.{CommitFails, Done}
use Rattle.desk_sql_write.specs.Replacing.{rows_before, rows_after}
use Rattle.desk_sql_write.specs.Taking.{FailsFor, Uses, rows_in}
use Rattle.desk_sql_write.specs.Written.{Wrote}
use Rattle.desk_sql_write.proofs.Causes.{later_caused, ends_caused}

module _ {S : Type 0} (g : Ghosts S) (old : Held S) (last new : State) (is_new : Bool)
    (change : Change) where
  abbrev begun : State
  begun = state g (record old { in_transaction = true })

  -- the writes and the commit were done
  pub ends_done : Wrote (rows_before is_new change) (rows_after is_new change) begun last
      → Shows last new last.now last.now false
      → Done is_new change (state g old) new
  ends_done wrote shows = record {
    was_open = wrote.kept.was_open shows.was_open;
    is_open = shows.is_open;
    settled = shows.committed_is ∙ sym shows.now_is;
    made = λ t takes has.
        subst (HasRows (rows_of (applied change t))) (sym shows.now_is)
        (wrote.change (record { tables = t; takes = takes }) has);
  }

  -- a write failed, and the transaction is dropped
  pub made_fails : (P : Trees → Type 0) (fault : Fault) → Survives last new P
      → FailsFor (rows_before is_new change) (rows_after is_new change) (rows_in change) begun last
      fault → CommitFails is_new change (state g old) new fault
  made_fails P fault s fails = record {
    cause = λ clean opened unlimited t takes has before after room.
        later_caused begun last new P fault s
        (fails.cause (clean_before last new P s clean) refl opened unlimited
        (record { tables = t; takes = takes }) has before after room);
  }

  -- the commit failed
  pub commit_fails : (P Q : Trees → Type 0) (e : Error) → Survives begun last Q
      → Survives last new P → (HasCleanDisk last
      → Wrote (rows_before is_new change) (rows_after is_new change) begun last)
      → (HasCleanDisk last → Uses (rows_before is_new change) (rows_in change) begun last)
      → (HasCleanDisk new → FailsToCommit last new e)
      → CommitFails is_new change (state g old) new (fault_by e)
  commit_fails P Q e s u wrote uses fails = record {
    cause = λ clean opened unlimited t takes has before after room.
        let was = clean_before last new P u clean in
        elim (ends_caused last new e ((uses was).is_open opened) (wrote was).inside (fails clean)) [
          | inl memory ↦ inl memory
          | inr more ↦ inr (more.0, omega (arith, s.counts, more.1))
        ];
  }

pub err_ends : (is_new : Bool) (change : Change) (old new : State) (r : Result (Unit {0}) Fault)
    (fault : Fault) → IsErrAnd r (λ e. e ≡ fault) → CommitFails is_new change old new fault
    → IfErr r (CommitFails is_new change old new)
err_ends is_new change old new (Ok done) fault is fails = absurd is
err_ends is_new change old new (Err e) fault is fails = rw is fails
