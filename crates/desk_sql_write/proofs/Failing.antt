-- A statement inside a transaction that is never refused fails only for a cause.
use Rattle.std.proofs.Common.{◌≡◌, ◌∙◌, inl, inr, ℕ, ◌+◌, Bool, true, false, List, [], length}
use Rattle.std.proofs.Common.{Option, Some, None, IfErr, IsTrue, Ok, Err, Result, append-nil, refl}
use Rattle.std.proofs.Common.{sym, subst, subst₂, ap}
use Rattle.std.specs.Prelude.{nat_le}
use Rattle.std.proofs.lemmas.Bool.{leb-true}
use Rattle.sqlite_value.specs.Order.{Row}
use Rattle.sqlite_trees.specs.declared.error.StoreError.TheVariants as store
use Rattle.sqlite_schema.specs.declared.schema.Schema.{Schema}
use Rattle.sqlite_schema.specs.declared.command.Command.{Command}
use Rattle.sqlite_schema.specs.declared.command.Command.TheVariants.{Select, Rows, Begin, Commit}
use Rattle.sqlite_schema.specs.declared.command.Command.TheVariants.{Rollback, Release, RollbackTo}
use Rattle.sqlite_resolve.specs.declared.compiled.Compiled.{Compiled}
use Rattle.sqlite.specs.declared.error.Error.{Error}
use Rattle.sqlite.specs.Clock.{timed}
use Rattle.sqlite.specs.Does.{Does}
use Rattle.sqlite.specs.Listing.{understood}
use Rattle.sqlite.specs.State.{State, Survives, IsNoStatement, IsNotRun, IsMisplaced, IsStatement}
use Rattle.sqlite.specs.State.{Fails, RunsCommand, ExecutesIn, Executes, ExecutesInside, EndsScope}
use Rattle.sqlite.specs.State.{mode_of, shows_rows, text_of}
use Rattle.sqlite.proofs.Callers.{IsPlain, command_of, statement_of}
use Rattle.desk_model.specs.Tables.{Tables}
use Rattle.desk_model.specs.declared.command.Fault.{Fault}
use Rattle.desk_sql_layout.specs.Faults.{fault_by}
use Rattle.desk_sql_layout.specs.Held.{HasRows, labelled, rows_of}
use Rattle.desk_sql_write.specs.Declaring.{Fits}
use Rattle.desk_sql_write.specs.Taking.{CanStand, HasRoom, IsCaused, RanInto}
use Rattle.desk_sql_write.specs.Turning.{Turns}
use Rattle.desk_sql_write.specs.Written.{Ran}

-- it shows rows, or begins or ends a transaction or a savepoint
abbrev pub is_other : Command → Bool
is_other (Select q names) = true
is_other (Rows values width names) = true
is_other Begin = true
is_other Commit = true
is_other Rollback = true
is_other (Release name) = true
is_other (RollbackTo name) = true
is_other _ = false

quiet : (k : Command) → is_other k ≡ false → (c : Compiled) → c.command ≡ k → c.returning ≡ None
    → shows_rows false c ≡ false
quiet (Select q names) other c is none = absurd (cc)
quiet (Rows values width names) other c is none = absurd (cc)
quiet k other c is none = rw (is, none) refl

module _ (schema : Schema) (sql : List ℕ) (params : Row) (old new : State)
    (has : old.now.schema ≡ schema) (opened : IsTrue old.is_open)
    (plain : IsPlain (understood schema sql))
    (fits : Fits sql (length params) (understood schema sql))
    (command : Command) (is : command_of (understood schema sql) ≡ command)
    (other : is_other command ≡ false)
    (never : (stop : Option Error)
    → Does old.step_limit (mode_of old) params old.now (statement_of sql (understood schema sql))
    None command (Err stop) → ⊥) where
  module _ (c : Compiled) (it : understood old.now.schema sql ≡ Ok c) where
    known : Ok c ≡ understood schema sql
    known = sym it ∙ ap (λ s. understood s sql) has

    bare : (c.returning ≡ None) × (c.formats ≡ [])
    bare = subst IsPlain (sym known) plain

    whole : (nat_le (length sql) c.tail ≡ true) × (length params ≡ length c.names)
    whole = subst (Fits sql (length params)) (sym known) fits

    ours : c.command ≡ command
    ours = ap command_of known ∙ is

    no_other : is_other c.command ≡ true → ⊥
    no_other otherwise = let no = rw (ours, other) at otherwise in cc

    undone : (time : ℕ) (stop : Option Error)
        → Does old.step_limit (mode_of old) (timed params c.formats time) old.now (text_of sql c)
        c.returning c.command (Err stop) → ⊥
    undone time stop did =
        let done = rw (bare.0, bare.1, append-nil params) at did in
        never stop (subst₂ (λ k t. Does old.step_limit (mode_of old) params old.now t None k
        (Err stop)) ours (ap (statement_of sql) known) done)

  no_statement : (e : Error) → IsNoStatement old sql params e → ⊥
  no_statement e (inl (fault, understood_not, told)) = let no = sym understood_not
      ∙ ap (λ s. understood s sql) has in subst (Fits sql (length params)) (sym no) fits
  no_statement e (inr (c, it, inl (more, told))) = more (leb-true _ _ (whole c it).0)
  no_statement e (inr (c, it, inr (inl (differ, told)))) = differ (whole c it).1
  no_statement e (inr (c, it, inr (inr (formats, told)))) = formats (bare c it).1

  fails : (big : Type 0) → (big → ⊥) → (e : Error) → Fails old new big e
      → IsCaused old new (fault_by e)
  fails big never e (store.OutOfMemory, is, cause, back, tells) = inl (rw is refl)
  fails big never e (store.Io, is, cause, back, tells) = inr (rw is refl, cause)
  fails big never e (store.Corrupt, is, cause, back, tells) = inr (rw is refl, cause)
  fails big never e (store.Full, is, cause, back, tells) = inr (rw is refl, cause)
  fails big never e (
    store.Broken,
    is,
    cause,
    back,
    tells,
  ) = absurd (let shut = rw cause at opened in cc)
  fails big never e (store.Unstorable, is, cause, back, tells) = absurd (never cause)

  misplaced : (c : Compiled) → understood old.now.schema sql ≡ Ok c → (e : Error)
      → IsMisplaced old c.command e → ⊥
  misplaced c it e (inl (told, inl (begins, inside))) = no_other c it (rw begins refl)
  misplaced c it e (inl (told, inr (inl commits, outside))) = no_other c it (rw commits refl)
  misplaced c it e (inl (told, inr (inr undoes, outside))) = no_other c it (rw undoes refl)
  misplaced c it e (inr (told, name, inl releases, none)) = no_other c it (rw releases refl)
  misplaced c it e (inr (told, name, inr undoes, none)) = no_other c it (rw undoes refl)

  ran : (e : Error) (c : Compiled) (it : IsStatement old sql params c)
      → RunsCommand old new sql c (timed params c.formats it.now) (Err e)
      → IsCaused old new (fault_by e)
  ran e c it (inl (inl wrong, same)) = absurd (misplaced c it.is e wrong)
  ran e c it (inl (inr refused, same)) = absurd (undone c it.is it.now (Some e) refused.1)
  ran e c it (inr failed) = fails
      (Does old.step_limit (mode_of old) (timed params c.formats it.now) old.now (text_of sql c)
      c.returning c.command (Err None)) (undone c it.is it.now None) e failed

  executed : (e : Error) → Executes sql params old new (Err e) → IsCaused old new (fault_by e)
  unfolding ExecutesIn IsNotRun
  executed e (inl (inl none)) = absurd (no_statement e none.0)
  executed e (inl (inr failed)) = fails ⊥ (λ no. no) e failed
  executed e (inr (c, it, runs)) = ran e c it
      (rw (quiet command other c (ours c it.is) (bare c it.is).0) at runs)

  escapes : EndsScope 0 sql params old → ⊥
  unfolding EndsScope
  escapes (c, it, inl (inl commits)) = no_other c it.is (rw commits refl)
  escapes (c, it, inl (inr undoes)) = no_other c it.is (rw undoes refl)
  escapes (c, it, inr (name, inl releases, held)) = no_other c it.is (rw releases refl)
  escapes (c, it, inr (name, inr undoes, held)) = no_other c it.is (rw undoes refl)

  pub caused : (e : Error) → ExecutesInside 0 sql params old new (Err e)
      → IsCaused old new (fault_by e)
  caused e (inl h) = executed e h.0
  caused e (inr h) = absurd (escapes h.0)

-- a statement, by what it does if it succeeds and if it fails
pub turns_by : {A : Type 0} (before after : A → ℕ → List Row) (many : ℕ) (sql : List ℕ)
    (params : Row) (old new : State)
    → ((count : ℕ) (a : A) → Executes sql params old new (Ok count) → HasRows (before a) old.now
    → HasRows (after a) new.now)
    → ((count : ℕ) (a : A) → Executes sql params old new (Ok count) → HasRows (before a) old.now
    → (n : ℕ) → HasRoom (n + many) (labelled old.now) → HasRoom n (labelled new.now))
    → (IsTrue old.is_open → old.step_limit ≡ None → (a : A) → HasRows (before a) old.now
    → CanStand (before a) → CanStand (after a) → HasRoom many (labelled old.now) → (e : Error)
    → ExecutesInside 0 sql params old new (Err e) → IsCaused old new (fault_by e))
    → (r : Result (Unit {0}) Fault) → Ran sql params old new r
    → IfErr r (RanInto sql params old new) → Survives old new (λ _. ⊥)
    → Turns before after many old new r
turns_by before after many sql params old new changes uses fails (Ok
    done) ran into survives = record {
      wrote = λ clean inside.
          let it = ran clean inside in
          record {
            inside = it.1.1.mode;
            kept = record {
              was_open = λ is. it.1.1.was_open;
              committed = λ is. it.1.1.committed_is;
            };
            change = λ a has. changes it.0 a it.1.0 has;
          };
      cause = λ clean inside.
          let it = ran clean inside in
          record {
            is_open = λ was. it.1.1.is_open;
            room = λ a has n room. uses it.0 a it.1.0 has n room;
          };
      survives = survives;
    }
turns_by before after many sql params old new changes uses fails (Err
    fault) ran into survives = record {
      wrote = ran;
      cause = record {
        cause = λ clean inside opened unlimited a has before after room.
            let it = into clean inside in
            subst (IsCaused old new) (sym it.1)
            (fails opened unlimited a has before after room it.0 it.2);
      };
      survives = survives;
    }

-- a text does this to the tables
abbrev pub Makes : List ℕ → Row → (Tables → Tables) → Type 1
Makes sql params made = (old new : State) (r : Result (Unit {0}) Fault) → Ran sql params old new r
    → IfErr r (RanInto sql params old new) → Survives old new (λ _. ⊥)
    → Turns rows_of (λ t. rows_of (made t)) 0 old new r
