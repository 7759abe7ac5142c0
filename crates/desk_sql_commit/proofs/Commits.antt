-- What a commit does to what contracts see of a connection.
use Rattle.std.proofs.Common.{◌≡◌, ◌∙◌, ◌⊎◌, inl, inr, Bool, true, IsTrue, Result, Ok, Err, OnOk}
use Rattle.std.proofs.Common.{OnErr, sym, subst, arith}
use Rattle.sqlite_trees.specs.Tree.{Trees}
use Rattle.sqlite.specs.State.{State, HasCleanDisk, Survives}
use Rattle.desk_model.specs.Tables.{Tables, applied}
use Rattle.desk_model.specs.declared.command.Change.{Change}
use Rattle.desk_model.specs.declared.command.Fault.{Fault}
use Rattle.desk_access.specs.Follows.{Follows}
use Rattle.desk_access.specs.Seen.{Seen, Outlasts, Made, Failed, Spared, Wrote}
use Rattle.desk_access.proofs.Chains.{spared_self}
use Rattle.desk_sql_layout.specs.Held.{Holds, Showing, Stands, seen_of}
use Rattle.desk_sql_layout.specs.Writable.{is_writable}
use Rattle.desk_sql_layout.proofs.Orderly.{order_kept}
use Rattle.desk_sql_commit.specs.Committing.{Done, Leaves, taking}
use Rattle.desk_sql_write.specs.Replacing.{Takes}
use Rattle.desk_sql_write.specs.Written.{Undone}

-- nothing was tried
pub refused : (is_new : Bool) (change : Change) (s : State)
    → Failed Stands change (taking is_new change (seen_of s)) (seen_of s)
refused is_new change s = record {
  spared = record {
    honest = λ clean. clean;
    holds = λ t holds. holds.1;
    outlasts = record {
      counts = (spared_self (seen_of s)).outlasts.counts;
      closes = (spared_self (seen_of s)).outlasts.closes;
    };
  };
  leaves = λ clean is t holds follows x left. inl left;
}

module _ (is_new : Bool) (change : Change) (writable : is_writable change ≡ true) (old new : State)
    (survives : Survives old new (Leaves is_new change old)) where
  abbrev before_it : Seen Trees
  before_it = taking is_new change (seen_of old)

  before : HasCleanDisk new → HasCleanDisk old
  before clean = omega (arith, survives.clean)

  outlasts : Outlasts before_it (seen_of new)
  outlasts = record { counts = survives.counts; closes = survives.closes }

  pub made : (HasCleanDisk new → Done is_new change old new)
      → (IsTrue new.is_open → (trees : Trees) → new.may_leave trees → trees ≡ new.committed.trees)
      → Made Stands change before_it (seen_of new)
  made done stop =
      let after =
      λ (clean : HasCleanDisk new) (t : Tables) (holds : before_it.holds t) (follows : Follows change t).
      let it = done clean in
      let held = (holds.1 (before clean) it.was_open).holds in
      let now : Holds (applied change t) new.now = record {
        rows = it.made t (holds.0 (before clean)) held.rows;
        orderly = order_kept change t follows writable held.orderly;
      } in now in
      record {
        honest = before;
        outlasts = outlasts;
        stays = λ clean. (done clean).is_open;
        holds = λ clean t holds follows again is.
            record { holds = after clean t holds follows; settled = (done clean).settled };
        leaves = λ clean t holds follows x left. (
          new.now,
          after clean t holds follows,
          stop (done clean).is_open x left
              ∙ (λ i. ((done clean).settled i).trees),
        );
      }

  -- the rows are as they were, whatever they are
  pub spared : (HasCleanDisk new → Undone old new) → Spared (seen_of old) (seen_of new)
  spared undone = record {
    honest = before;
    holds = λ t holds clean is.
        let it = undone clean in
        let shows = holds (before clean) (it.was_open is) in
        record {
          holds = subst (Holds t) (sym (it.now is ∙ shows.settled)) shows.holds;
          settled = it.committed is ∙ sym (it.now is);
        };
    outlasts = record { counts = survives.counts; closes = survives.closes };
  }

  pub failed : (HasCleanDisk new → Undone old new) → Failed Stands change before_it (seen_of new)
  failed undone = record {
    spared = record {
      honest = before;
      holds = λ t holds. (spared undone).holds t holds.1;
      outlasts = outlasts;
    };
    leaves = λ clean is t holds follows x left.
        one x t (holds.0 (before clean)) ((holds.1 (before clean) is).holds) follows
        (survives.crash clean x left);
  }
    where
      one : (x : Trees) (t : Tables) → Takes is_new change t → Holds t old.now → Follows change t
          → old.may_leave x ⊎ Leaves is_new change old x
          → old.may_leave x ⊎ Stands x (applied change t)
      one x t takes held follows (inl was) = inl was
      one x t takes held follows (inr it) = inr (
        it.0,
        record {
          rows = it.1 t takes held.rows;
          orderly = order_kept change t follows writable held.orderly;
        },
        it.2,
      )

  pub committed : (r : Result (Unit {0}) Fault)
      → (HasCleanDisk new → OnOk r (Done is_new change old new))
      → (HasCleanDisk new → OnErr r (Undone old new))
      → (IsTrue new.is_open → (trees : Trees) → new.may_leave trees → trees ≡ new.committed.trees)
      → Wrote Stands change before_it (seen_of new) r
  committed (Ok done) ok err stop = made ok stop
  committed (Err fault) ok err stop = failed err

  pub all_spared : (r : Result (Unit {0}) Fault) → (HasCleanDisk new → OnErr r (Undone old new))
      → OnErr r (Spared (seen_of old) (seen_of new))
  all_spared (Ok done) err = tt
  all_spared (Err fault) err = spared err
