-- What a query does to what contracts see of a connection.
use Rattle.std.proofs.Common.{◌⊎◌, inl, inr, ℕ, List, IsTrue, Option, Some, None, sym, subst}
use Rattle.std.proofs.Common.{◌∙◌, arith}
use Rattle.sqlite_trees.specs.Tree.{Trees}
use Rattle.sqlite_value.specs.Order.{Row}
use Rattle.sqlite_schema.specs.declared.command.Returning.{Returning}
use Rattle.sqlite_resolve.specs.declared.compiled.Compiled.{Compiled}
use Rattle.sqlite.specs.declared.error.Error.{Error}
use Rattle.sqlite.specs.Clock.{timed}
use Rattle.sqlite.specs.State.{State, HasCleanDisk, Survives, IsUnchanged, IsRolledBack}
use Rattle.sqlite.specs.State.{FailsToQuery, FailsToShow, IsNotRun, Shown, ShowsRows}
use Rattle.sqlite.specs.State.{CommitsShowing}
use Rattle.sqlite.proofs.Callers.{IsPlain, never_commits}
use Rattle.desk_model.specs.Tables.{Tables}
use Rattle.desk_access.specs.Seen.{Kept, Same}
use Rattle.desk_sql_layout.specs.Causes.{IsPlainText}
use Rattle.desk_sql_layout.specs.Desk.{HasDesk}
use Rattle.desk_sql_layout.specs.Held.{Holds, Showing, seen_of}

module _ (sql : List ℕ) (params : Row) (old new : State) where
  abbrev Moves : Type 0
  Moves = IsUnchanged old new ⊎ IsRolledBack old new

  fails_so : (c : Compiled) (ps : Row) (e : Error) (what : Option Returning)
      → FailsToShow old new sql c ps e what → Moves
  fails_so c ps e None h = inl h.3
  fails_so c ps e (Some what) (inl h) = inl h.1
  fails_so c ps e (Some what) (inr f) = inr f.3

  not_run : (e : Error) → IsNotRun old new sql params e → Moves
  unfolding IsNotRun
  not_run e (inl h) = inl h.1
  not_run e (inr f) = inr f.3

  fails_to_query : (e : Error) → FailsToQuery sql params old new e → Moves
  unfolding FailsToQuery
  fails_to_query e (inl h) = not_run e h
  fails_to_query e (inr h) = fails_so h.0 (timed params h.0.formats h.1.now) e h.0.returning h.2

  rows_open : (c : Compiled) (ps : Row) (rows : List Row) (what : Option Returning)
      → ShowsRows old new sql c ps rows what → IsTrue old.is_open × IsTrue new.is_open
  rows_open c ps rows None h = (h.3.0.was_open, h.3.0.is_open)
  rows_open c ps rows (Some what) h = (h.1.shown.was_open, h.1.shown.is_open)

  pub shown_open : (rows : List Row) → Shown sql params old new rows
      → IsTrue old.is_open × IsTrue new.is_open
  unfolding Shown
  shown_open rows h = rows_open h.0 (timed params h.0.formats h.1.now) rows h.0.returning h.2

  pub shown_unchanged : (rows : List Row) → HasDesk old.now.schema → IsPlainText sql
      → Shown sql params old new rows → IsUnchanged old new
  unfolding Shown
  shown_unchanged rows has plain h =
      let bare = subst IsPlain h.1.is (plain.within old.now.schema has) in
      let it = subst (ShowsRows old new sql h.0 (timed params h.0.formats h.1.now) rows) bare.0
      h.2 in it.3

  -- a query that begins left everything as it was, or showed its rows
  abbrev pub Begins : Type 0
  Begins = IsUnchanged old new ⊎ ((rows : List Row) × Shown sql params old new rows)

  begins_unchanged : HasDesk old.now.schema → IsPlainText sql → Begins → IsUnchanged old new
  begins_unchanged has plain (inl same) = same
  begins_unchanged has plain (inr shown) = shown_unchanged shown.0 has plain shown.1

  pub begins_open : Begins → IsTrue old.is_open × IsTrue new.is_open
  begins_open (inl same) = (same.0.was_open, same.0.is_open)
  begins_open (inr shown) = shown_open shown.0 shown.1

  was_open : Moves → IsTrue new.is_open → IsTrue old.is_open
  was_open (inl same) is = same.0.was_open
  was_open (inr back) is = back.was_open is

  shows_still : (t : Tables) → Moves → IsTrue new.is_open → Showing old t → Showing new t
  shows_still t (inl same) is shows = record {
    holds = subst (Holds t) (sym same.0.now_is) shows.holds;
    settled = same.0.committed_is ∙ shows.settled ∙ sym same.0.now_is;
  }
  shows_still t (inr back) is shows =
      let undone = back.undone is in
      record {
        holds = subst (Holds t) (sym (undone.0 ∙ shows.settled)) shows.holds;
        settled = undone.1 ∙ sym undone.0;
      }

  module _ (plain : IsPlainText sql)
      (survives : Survives old new (CommitsShowing sql params old)) where
    clean_before : HasCleanDisk new → HasCleanDisk old
    clean_before clean = omega (arith, survives.clean)

    keeps : (HasCleanDisk new → (t : Tables) → Showing old t → IsTrue new.is_open → Moves)
        → (HasCleanDisk new → IsTrue new.is_open → IsTrue old.is_open)
        → Kept (seen_of old) (seen_of new)
    keeps moves opened = record {
      spared = record {
        honest = clean_before;
        holds = λ t holds clean is.
            let shows = holds (clean_before clean) (opened clean is) in
            shows_still t (moves clean t shows is) is shows;
        outlasts = record { counts = survives.counts; closes = survives.closes };
      };
      leaves = λ clean is t holds x left.
          let shows = holds (clean_before clean) is in
          let none : CommitsShowing sql params old x → old.may_leave x = λ commits.
          absurd (never_commits sql params old x
          (plain.within old.now.schema shows.holds.rows.declared)
          commits) in
          one x none (survives.crash clean x left);
    }
      where
        one : (x : Trees) → (CommitsShowing sql params old x → old.may_leave x)
            → old.may_leave x ⊎ CommitsShowing sql params old x → old.may_leave x
        one x none (inl was) = was
        one x none (inr commits) = none commits

    -- a query that failed
    pub failed : (e : Error) → (HasCleanDisk new → FailsToQuery sql params old new e)
        → Kept (seen_of old) (seen_of new)
    failed e fails = keeps (λ clean t shows is. fails_to_query e (fails clean))
        (λ clean is. was_open (fails_to_query e (fails clean)) is)

    -- a query that began
    pub begun : (HasCleanDisk new → Begins) → Same (seen_of old) (seen_of new)
    begun has = record {
      kept = keeps (λ clean t shows is.
          inl (begins_unchanged shows.holds.rows.declared plain (has clean)))
          (λ clean is. (begins_open (has clean)).0);
      stays = λ clean is. (begins_open (has clean)).1;
    }

    -- a query that answered
    pub answered : (rows : List Row) → (HasCleanDisk new → Shown sql params old new rows)
        → Same (seen_of old) (seen_of new)
    answered rows shown = record {
      kept = keeps (λ clean t shows is.
          inl (shown_unchanged rows shows.holds.rows.declared plain (shown clean)))
          (λ clean is. (shown_open rows (shown clean)).0);
      stays = λ clean is. (shown_open rows (shown clean)).1;
    }
