-- A look-up fails only for a cause.
use Rattle.std.proofs.Common.{◌≡◌, ◌⊎◌, inl, inr, ℕ, Bool, true, false, nat_le, List, [], ◌∷◌}
use Rattle.std.proofs.Common.{length, map, filter, IfErr, Option, None, Ok, Err, Result, IsTrue}
use Rattle.std.proofs.Common.{append-nil, refl, sym, subst, ◌∙◌, ap, arith}
use Rattle.std.specs.List.{AllByRecursion}
use Rattle.std.specs.Result.{IsErrAnd}
use Rattle.std.proofs.lemmas.Bool.{leb-true}
use Rattle.std.proofs.lemmas.Result.{IfErr-weaker}
use Rattle.sqlite_value.specs.declared.keys.Key.{Key}
use Rattle.sqlite_value.specs.Order.{Row}
use Rattle.sqlite_sql.specs.Term.{Term}
use Rattle.sqlite_typing.specs.Types.{accepts_program}
use Rattle.sqlite_trees.specs.Tree.{Trees}
use Rattle.sqlite_trees.specs.declared.error.StoreError.TheVariants as store
use Rattle.sqlite_schema.specs.declared.schema.Schema.{Schema}
use Rattle.sqlite_schema.specs.declared.command.Command.TheVariants.{Select}
use Rattle.sqlite_resolve.specs.declared.compiled.Compiled.{Compiled}
use Rattle.sqlite_resolve.specs.declared.error.CompileError.{CompileError}
use Rattle.sqlite.specs.declared.error.Error.{Error}
use Rattle.sqlite.specs.Effect.{Database, RefusesQuery, RefusesToRead}
use Rattle.sqlite.specs.Listing.{understood, reads_listing, IsSourceOf}
use Rattle.sqlite.specs.State.{State, HasCleanDisk, Survives, IsNoStatement, IsNotRun, Fails}
use Rattle.sqlite.specs.State.{FailsToQuery}
use Rattle.sqlite.proofs.Callers.{IsPlain, command_of}
use Rattle.desk_model.specs.declared.command.Fault.{Fault}
use Rattle.desk_model.specs.declared.command.Fault.TheVariants.{Memory, Store}
use Rattle.desk_model.specs.declared.command.StoreFault.TheVariants.{Database as DatabaseFault}
use Rattle.desk_model.specs.Tables.{Tables}
use Rattle.desk_access.specs.Seen.{Looked, MoreFaults, Same}
use Rattle.desk_sql_layout.specs.Faults.{fault_by}
use Rattle.desk_sql_layout.specs.Held.{seen_of}
use Rattle.desk_sql_layout.specs.Desk.{HasDesk}
use Rattle.desk_sql_layout.proofs.Queries.{query_on}
use Rattle.desk_sql_layout.specs.Causes.{AreWritten, HasCauseIf, HasCause, IsAsked}
use Rattle.desk_sql_layout.specs.Causes.{IsAskedIn, IsPlainText, IsRow}

-- ---- why a query is refused

-- the statement is whole, and has this many parameters
abbrev pub Suits : List ℕ → ℕ → Result Compiled CompileError → Type 0
Suits sql count (Ok c) = (nat_le (length sql) c.tail ≡ true) × (count ≡ length c.names)
Suits sql count (Err e) = ⊥

-- a query of one table never is
pub never_refused : (schema : Schema) (limit : Option ℕ) (tree : ℕ) (tests project : List Term)
    (order : List (Term × Key)) (params : Row) → limit ≡ None
    → accepts_program schema [] (query_on tree tests project order) params ≡ true
    → (db : Database) (e : Error) → db.schema ≡ schema
    → ¬ RefusesQuery limit db (record { lets = []; body = query_on tree tests project order })
    params e
never_refused schema limit tree tests project order params none accepts db e has
    (inl typed) = absurd
    (let no = rw (has, accepts) at typed.1 in cc)
never_refused schema limit tree tests project order params none accepts db e has (inr (inl (
  is,
  inl over,
))) = over
never_refused schema limit tree tests project order params none accepts db e has (inr (inl (
  is,
  inr any,
))) = any.4
never_refused schema limit tree tests project order params none accepts db e has
    (inr (inr limited)) =
    absurd (let no = rw none at limited.1 in cc)

pub asked : (schema : Schema) (sql : List ℕ) (params : Row) (tree : ℕ) (tests project : List Term)
    (order : List (Term × Key)) (names : List (List ℕ))
    → (command_of (understood schema sql)
    ≡ Select (record { lets = []; body = query_on tree tests project order }) names)
    × (reads_listing schema sql ≡ false)
    → IsPlain (understood schema sql) → Suits sql (length params) (understood schema sql)
    → accepts_program schema [] (query_on tree tests project order) params ≡ true
    → IsAskedIn schema sql params
asked schema sql params tree tests project order names is plain suits accepts = go
    (understood schema sql) refl
  where
    go : (r : Result Compiled CompileError) → understood schema sql ≡ r
        → IsAskedIn schema sql params
    go (Ok c) known =
        let fits = subst (Suits sql (length params)) known suits in
        let command : c.command ≡ Select (record {
          lets = [];
          body = query_on tree tests project order;
        }) names = sym (ap command_of known) ∙ is.0 in
        record {
          compiled = c;
          is = known;
          plain = subst IsPlain known plain;
          query = query_on tree tests project order;
          names = names;
          selects = command;
          unlisted = is.1;
          whole = fits.0;
          given = fits.1;
          answers = λ db e has. subst (λ k. ¬ RefusesToRead None k db params e) (sym command)
              (never_refused schema None tree tests project order params refl accepts db e has);
        }
    go (Err e) known = absurd (subst (Suits sql (length params)) known suits)

module _ (sql : List ℕ) (params : Row) (old new : State) (has : HasDesk old.now.schema)
    (opened : IsTrue old.is_open) (unlimited : old.step_limit ≡ None)
    (asks : IsAsked sql params) where
  abbrev here : IsAskedIn old.now.schema sql params
  here = asks.within old.now.schema has

  abbrev Caused : Error → Type 0
  Caused e = (fault_by e ≡ Memory)
      ⊎ ((fault_by e ≡ Store DatabaseFault) × MoreFaults old.faults new.faults)

  known : understood old.now.schema sql ≡ Ok here.compiled
  known = here.is

  fails : (e : Error) → Fails old new ⊥ e → Caused e
  fails e (store.OutOfMemory, is, cause, back, tells) = inl (rw is refl)
  fails e (store.Io, is, cause, back, tells) = inr (rw is refl, cause)
  fails e (store.Corrupt, is, cause, back, tells) = inr (rw is refl, cause)
  fails e (store.Full, is, cause, back, tells) = inr (rw is refl, cause)
  fails e (store.Broken, is, cause, back, tells) = absurd (let shut = rw cause at opened in cc)
  fails e (store.Unstorable, is, cause, back, tells) = absurd cause

  same_compiled : (c : Compiled) → understood old.now.schema sql ≡ Ok c → here.compiled ≡ c
  same_compiled c is = let it = sym known ∙ is in cc

  no_statement : (e : Error) → ¬ IsNoStatement old sql params e
  no_statement e (inl (fault, is, told)) = let it = sym known ∙ is in cc
  no_statement e (inr (c, is, inl (more, told))) = let it = same_compiled c is in
      more (leb-true _ _ (rw it at here.whole))
  no_statement e (inr (c, is, inr (inl (differ, told)))) = let it = same_compiled c is in
      differ (rw it at here.given)
  no_statement e (inr (c, is, inr (inr (formats, told)))) = let it = same_compiled c is in
      formats ((rw it at here.plain).1)

  answers : (c : Compiled) → here.compiled ≡ c → (db : Database)
      → IsSourceOf (reads_listing old.now.schema sql) old.now db → (e : Error)
      → ¬ RefusesToRead old.step_limit c.command db params e
  answers c is db source e =
      let it : db ≡ old.now = subst (λ b. IsSourceOf b old.now db)
      here.unlisted source in
      let declared : db.schema ≡ old.now.schema = ap (λ (d : Database). d.schema) it in
      subst (λ (k : Compiled). ¬ RefusesToRead old.step_limit k.command db params e) is
      (subst (λ l. ¬ RefusesToRead l here.compiled.command db params e) (sym unlimited)
      (here.answers db e declared))

  pub caused : (e : Error) → FailsToQuery sql params old new e → Caused e
  unfolding FailsToQuery IsNotRun
  caused e (inl (inl none)) = absurd (no_statement e none.0)
  caused e (inl (inr failed)) = fails e failed
  caused e (inr (c, it, h)) =
      let same = same_compiled c it.is in
      let plain = rw same at here.plain in
      let refused = rw (plain.0, plain.1, append-nil params) at h in
      absurd (answers c same refused.0 refused.1 e refused.2)

-- a text that is asked reads no clock
pub plain_text : {sql : List ℕ} {params : Row} → IsAsked sql params → IsPlainText sql
plain_text asks = record {
  within = λ schema desk.
      let it = asks.within schema desk in
      subst IsPlain (sym it.is) it.plain;
}

-- a query that failed
pub failed_cause : (sql : List ℕ) (params : Row) (old new : State) (P : Trees → Type 0)
    → Survives old new P → IsAsked sql params → (e : Error)
    → (HasCleanDisk new → FailsToQuery sql params old new e) → HasCause old new (fault_by e)
failed_cause sql params old new P survives asked e fails = record {
  cause = λ clean opened unlimited t holds written any.
      let was : HasCleanDisk old = omega (arith, survives.clean) in
      caused sql params old new (holds was opened).holds.rows.declared opened unlimited asked e
      (fails clean);
}

-- ---- what is read of rows

-- what a query shows of some rows of a table is as a desk writes it
pub filter_written : {X : Type 0} (full part : X → Row)
    → ((x : X) → IsRow (full x) → IsRow (part x)) → (p : X → Bool) (xs : List X)
    → AllByRecursion IsRow (map full xs) → AllByRecursion IsRow (map part (filter p xs))
filter_written full part keeps p [] all = tt
filter_written {X} full part keeps p (x ∷ xs) all = go (filter_written full part keeps p xs all.1)
    (p x) refl
  where
    go : AllByRecursion IsRow (map part (filter p xs)) → (b : Bool) → p x ≡ b
        → AllByRecursion IsRow (map part (filter p (x ∷ xs)))
    go more true is = rw is (keeps x all.0, more)
    go more false is = rw is more

pub every_written : {X : Type 0} (full part : X → Row) → ((x : X) → IsRow (full x) → IsRow (part x))
    → (xs : List X) → AllByRecursion IsRow (map full xs) → AllByRecursion IsRow (map part xs)
every_written full part keeps [] all = tt
every_written full part keeps (x ∷ xs) all = (keeps x all.0, every_written full part keeps xs all.1)

pub filter_all : {X : Type 0} (Q : X → Type 0) (p : X → Bool) (xs : List X) → AllByRecursion Q xs
    → AllByRecursion Q (filter p xs)
filter_all Q p [] all = tt
filter_all {X} Q p (x ∷ xs) all = go (filter_all Q p xs all.1) (p x) refl
  where
    go : AllByRecursion Q (filter p xs) → (b : Bool) → p x ≡ b
        → AllByRecursion Q (filter p (x ∷ xs))
    go more true is = rw is (all.0, more)
    go more false is = rw is more

pub no_days : {X : Type 0} (xs : List X) → AllByRecursion (λ x. Unit {0}) xs
no_days [] = tt
no_days (x ∷ xs) = (tt, no_days xs)

module _ (Is : Tables → Type 0) (old new : State) {A : Type 0} (r : Result A Fault) where
  -- rows that a call showed are read
  pub read_cause : (P : Fault → Type 0)
      → ((clean : HasCleanDisk new) (t : Tables) → (seen_of old).holds t → AreWritten t → Is t
      → (fault : Fault) → P fault → fault ≡ Memory) → IfErr r P → IfErr r (HasCauseIf Is old new)
  read_cause P right = IfErr-weaker r P (HasCauseIf Is old new)
      (λ fault told. record {
        cause = λ clean opened unlimited t holds written is.
            inl (right clean t holds written is fault told);
      })

module _ (Is : Tables → Type 0) (a b c : State) (same : Same (seen_of a) (seen_of b))
    (limit : b.step_limit ≡ a.step_limit) (honest : HasCleanDisk c → HasCleanDisk b) where
  -- a call after another one failed
  pub cause_after : (fault : Fault) → HasCauseIf Is b c fault → HasCauseIf Is a c fault
  cause_after fault has = record {
    cause = λ clean opened unlimited t holds written is.
        elim (has.cause clean (same.stays (honest clean) opened) (limit ∙ unlimited) t
        (same.kept.spared.holds t holds) written is) [
          | inl memory ↦ inl memory
          | inr more ↦ inr (more.0, omega (arith, same.kept.spared.outlasts.counts, more.1))
        ];
  }

pub any_cause : (Is : Tables → Type 0) (old new : State) (fault : Fault) → HasCause old new fault
    → HasCauseIf Is old new fault
any_cause Is old new fault has = record {
  cause = λ clean opened unlimited t holds written is.
      has.cause clean opened unlimited t holds written tt;
}

pub memory_cause : (Is : Tables → Type 0) (old new : State) (fault : Fault) → fault ≡ Memory
    → HasCauseIf Is old new fault
memory_cause Is old new fault is = record {
  cause = λ clean opened unlimited t holds written any.
      inl is;
}

pub never_cause : (Is : Tables → Type 0) (old new : State) {A : Type 0} (r : Result A Fault)
    (P : Type 0) → (HasCleanDisk new → (t : Tables) → (seen_of old).holds t → Is t → P)
    → IfErr r (λ fault. ¬ P) → IfErr r (HasCauseIf Is old new)
never_cause Is old new r P is = IfErr-weaker r (λ fault. ¬ P) (HasCauseIf Is old new)
    (λ fault never. record {
      cause = λ clean opened unlimited t holds written so.
          absurd (never (is clean t holds so));
    })

-- a call failed, and `?` returns its fault
pub err_cause : (Is : Tables → Type 0) (old new : State) {A : Type 0} (r : Result A Fault)
    (fault : Fault) → IsErrAnd r (λ e. e ≡ fault) → HasCauseIf Is old new fault
    → IfErr r (HasCauseIf Is old new)
err_cause Is old new (Ok x) fault is has = absurd is
err_cause Is old new (Err e) fault is has = rw is has

-- no memory was left
pub memory_err : (Is : Tables → Type 0) (old new : State) {A : Type 0} (r : Result A Fault)
    → IsErrAnd r (λ e. e ≡ Memory) → IfErr r (HasCauseIf Is old new)
memory_err Is old new r is = err_cause Is old new r Memory is (memory_cause Is old new Memory refl)

-- the last of two calls
pub then_cause : (Is : Tables → Type 0) (a b c : State) → Same (seen_of a) (seen_of b)
    → b.step_limit ≡ a.step_limit → {A : Type 0} (r : Result A Fault)
    → Looked (seen_of b) (seen_of c) r → IfErr r (HasCauseIf Is b c) → IfErr r (HasCauseIf Is a c)
then_cause Is a b c same limit (Ok x) looked has = tt
then_cause Is a b c same limit (Err fault) looked has = cause_after Is a b c same limit
    looked.spared.honest fault has

-- ---- rows that a query showed, and that are read

module _ {X : Type 0} (cells : X → Row) (Is : Tables → Type 0) (old new : State) {A : Type 0}
    (r : Result A Fault) (rows : List Row) (xs : Tables → List X)
    (shown : HasCleanDisk new → (t : Tables) → (seen_of old).holds t → Is t
    → rows ≡ map cells (xs t)) (all : (t : Tables) → AreWritten t
    → AllByRecursion IsRow (map cells (xs t))) where
  pub rows_cause : IfErr r (λ fault. (ys : List X) → rows ≡ map cells ys → AllByRecursion IsRow rows
      → fault ≡ Memory) → IfErr r (HasCauseIf Is old new)
  rows_cause = read_cause Is old new r
      (λ fault. (ys : List X) → rows ≡ map cells ys → AllByRecursion IsRow rows → fault ≡ Memory)
      (λ clean t holds written is fault told. let it = shown clean t holds is in
      told (xs t) it (subst (AllByRecursion IsRow) (sym it) (all t written)))
