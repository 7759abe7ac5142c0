-- A text that only reads leaves every database as it is.
use Rattle.std.proofs.Common.{◌≡◌, ◌≢◌, ◌⊎◌, inl, inr, ℕ, ◌+◌, Bool, true, false, List, IsTrue, Option}
use Rattle.std.proofs.Common.{Some, None, Ok, Err, refl, sym, ap, subst, ◌∙◌}
use Rattle.std.specs.Prelude.{IsSome}
use Rattle.sqlite_value.specs.Order.{Row}
use Rattle.sqlite_trees.specs.Tree.{Trees}
use Rattle.sqlite_syntax.specs.declared.statement.Parsed.{Parsed}
use Rattle.sqlite_schema.specs.declared.schema.Schema.{Schema}
use Rattle.sqlite_schema.specs.declared.command.Command.{Command}
use Rattle.sqlite_schema.specs.declared.command.Returning.{Returning}
use Rattle.sqlite_resolve.specs.declared.compiled.Compiled.{Compiled}
use Rattle.sqlite_resolve.specs.Lowering.{Checked, and_then}
use Rattle.sqlite_resolve.specs.Scope.{Name}
use Rattle.sqlite_resolve.specs.Compile as compile
use Rattle.sqlite_resolve.specs.Compile.{small, first, returning, command, meaning, planned, compiled, with_command}
use Rattle.sqlite.specs.declared.error.Error.{Error}
use Rattle.sqlite.specs.Clock.{timed}
use Rattle.sqlite.specs.Listing.{understood, reads_listing, if_select, is_select, listing_schema}
use Rattle.sqlite.specs.State.{State, HasCleanDisk, Survives, IsUnchanged, IsRolledBack}
use Rattle.sqlite.specs.State.{FailsToQuery, FailsToShow, IsNotRun, Shown, ShowsRows}
use Rattle.sqlite.specs.State.{CommitsShowing}
use Rattle.sqlite.specs.declared.error.Error.TheVariants.{SqliteFailure}
use Rattle.sqlite.specs.declared.error.ErrorCode.TheVariants.{OutOfMemory}
use Rattle.desk_model.specs.declared.command.Fault.TheVariants.{Store}
use Rattle.desk_model.specs.declared.command.StoreFault.TheVariants.{Rows}
use Rattle.desk_sql_layout.specs.Faults.{fault_by}
use Rattle.desk_sql_adopt.specs.Reading.{Asks, Answers, IsSpared}

-- ---- what a text is, whatever the schema

then_gives : {A B : Type 0} (x : Checked A) (f : A → Checked B) (b : B) → and_then x f ≡ Ok b
    → (a : A) × (x ≡ Ok a) × (f a ≡ Ok b)
then_gives (Ok a) f b h = (a, refl, h)
then_gives (Err e) f b h = absurd (cc)

abbrev checked : {A : Type 0} → A → Checked A
checked a = Ok a

same_ok : {A : Type 0} (a b : A) → checked a ≡ Ok b → a ≡ b
same_ok a b h = cc

meaning_none : (schema : Schema) (p : Parsed) (base : ℕ) (m : Command × Option Returning)
    → returning schema base p.statement ≡ Ok None → meaning schema p base ≡ Ok m → m.1 ≡ None
unfolding meaning
meaning_none schema p base m none h =
    let shown = then_gives (returning schema base p.statement)
    (λ shown. and_then (command schema p.formats base p.statement) (λ c. Ok (c, shown))) m h in
    let c = then_gives (command schema p.formats base p.statement) (λ c. Ok (c, shown.0)) m
    shown.2 in
    sym (ap (λ (m : Command × Option Returning). m.1) (same_ok (c.0, shown.0) m c.2))
    ∙ same_ok shown.0 None (sym shown.1 ∙ none)

planned_none : (schema : Schema) (p : Parsed) (plan : List Name × (Command × Option Returning))
    → ((base : ℕ) → returning schema base p.statement ≡ Ok None) → planned schema p ≡ Ok plan
    → plan.1.1 ≡ None
unfolding planned
planned_none schema p plan none h =
    let formats = compile.timed schema p.formats p.statement in
    let base = small p.names + small formats in
    let found = then_gives (meaning schema p base) (λ found. Ok (formats, found)) plan h in
    sym (ap (λ (plan : List Name × (Command × Option Returning)). plan.1.1)
    (same_ok (formats, found.0) plan found.2))
    ∙ meaning_none schema p base found.0 (none base) found.1

module _ (text : List ℕ) (none : (schema : Schema) (base : ℕ)
    → and_then (first text) (λ p. returning schema base p.statement) ≡ Ok None) where
  compiled_none : (schema : Schema) (c : Compiled) → compiled schema text ≡ Ok c
      → c.returning ≡ None
  unfolding compiled
  compiled_none schema c h =
      let p = then_gives (first text)
      (λ p. and_then (planned schema p) (λ plan. Ok (with_command p plan))) c h in
      let plan = then_gives (planned schema p.0) (λ plan. Ok (with_command p.0 plan)) c p.2 in
      let bare = λ (base : ℕ). subst (λ (x : Checked Parsed). and_then x
      (λ p. returning schema base p.statement) ≡ Ok None) p.1 (none schema base) in
      sym (ap (λ (c : Compiled). c.returning) (same_ok (with_command p.0 plan.0) c plan.2))
      ∙ planned_none schema p.0 plan.0 bare plan.1

  listed_none : (x : Checked Compiled) → ((c : Compiled) → x ≡ Ok c → c.returning ≡ None)
      → (c : Compiled) → if_select x ≡ Ok c → c.returning ≡ None
  listed_none (Ok d) bare c h = go (is_select d.command) refl
    where
      go : (b : Bool) → is_select d.command ≡ b → c.returning ≡ None
      go true is = bare c (rw is at h)
      go false is = absurd (let e = rw is at h in cc)
  listed_none (Err e) bare c h = absurd (cc)

  pub asks : Asks text
  unfolding understood
  asks schema c h = go (reads_listing schema text) refl
    where
      go : (b : Bool) → reads_listing schema text ≡ b → c.returning ≡ None
      go true is = listed_none (compiled listing_schema text) (compiled_none listing_schema) c
          (rw is at h)
      go false is = compiled_none schema c (rw is at h)

-- ---- what it does to a connection

module _ (sql : List ℕ) (params : Row) (old new : State) (bare : Asks sql) where
  abbrev Moves : Type 0
  Moves = IsUnchanged old new ⊎ IsRolledBack old new

  pub shown_unchanged : (rows : List Row) → Shown sql params old new rows → IsUnchanged old new
  unfolding Shown
  shown_unchanged rows h =
      let it = subst (ShowsRows old new sql h.0 (timed params h.0.formats h.1.now) rows)
      (bare old.now.schema h.0 h.1.is) h.2 in it.3

  pub answers : (rows : List Row) → Shown sql params old new rows → Answers sql params old rows
  unfolding Shown
  answers rows h =
      let none = bare old.now.schema h.0 h.1.is in
      let it = subst (ShowsRows old new sql h.0 (timed params h.0.formats h.1.now) rows) none h.2 in
      (h.0, h.1, none, it.0, it.1, it.2)

  not_run : (e : Error) → IsNotRun old new sql params e → Moves
  unfolding IsNotRun
  not_run e (inl h) = inl h.1
  not_run e (inr f) = inr f.3

  pub failed_so : (e : Error) → FailsToQuery sql params old new e → Moves
  unfolding FailsToQuery
  failed_so e (inl h) = not_run e h
  failed_so e (inr h) = let it =
      subst (FailsToShow old new sql h.0 (timed params h.0.formats h.1.now) e)
      (bare old.now.schema h.0 h.1.is) h.2 in inl it.3

  no_some : (what : Option Returning) → what ≡ None → IsSome what → ⊥
  no_some None is some = absurd (cc)
  no_some (Some x) is some = absurd (cc)

  never : (x : Trees) → CommitsShowing sql params old x → ⊥
  unfolding CommitsShowing
  never x h = no_some h.0.returning (bare old.now.schema h.0 h.1.is) h.2

  module _ (settled : IsTrue old.is_open → old.now ≡ old.committed)
      (survives : Survives old new (CommitsShowing sql params old)) where
    pub still : Survives old new (λ _. ⊥)
    still = record {
      clean = survives.clean;
      shield = survives.shield;
      counts = survives.counts;
      limit = survives.limit;
      closes = survives.closes;
      crash = λ clean x left. one x (survives.crash clean x left);
    }
      where
        one : (x : Trees) → old.may_leave x ⊎ CommitsShowing sql params old x → old.may_leave x ⊎ ⊥
        one x (inl was) = inl was
        one x (inr commits) = absurd (never x commits)

    was_open : Moves → IsTrue new.is_open → IsTrue old.is_open
    was_open (inl same) is = same.0.was_open
    was_open (inr back) is = back.was_open is

    now_is : Moves → IsTrue new.is_open → new.now ≡ old.now
    now_is (inl same) is = same.0.now_is
    now_is (inr back) is = (back.undone is).0 ∙ sym (settled (back.was_open is))

    committed_is : Moves → IsTrue new.is_open → new.committed ≡ old.committed
    committed_is (inl same) is = same.0.committed_is
    committed_is (inr back) is = (back.undone is).1

    spared : (HasCleanDisk new → Moves) → IsSpared old new
    spared moves = record {
      survives = still;
      was_open = λ clean is. was_open (moves clean) is;
      now = λ clean is. now_is (moves clean) is;
      committed = λ clean is. committed_is (moves clean) is;
    }

    -- a query that answered
    pub answered : (rows : List Row) → (HasCleanDisk new → Shown sql params old new rows)
        → IsSpared old new × (HasCleanDisk new → IsTrue old.is_open → IsTrue new.is_open)
    answered rows shown = (
      spared (λ clean. inl (shown_unchanged rows (shown clean))),
      λ clean is. (shown_unchanged rows (shown clean)).0.is_open,
    )

    -- a query that failed
    pub failed : (e : Error) → (HasCleanDisk new → FailsToQuery sql params old new e)
        → IsSpared old new
    failed e fails = spared (λ clean. failed_so e (fails clean))

-- the error of a database is no fault of its rows
pub never_rows : (e : Error) → fault_by e ≢ Store Rows
never_rows (SqliteFailure OutOfMemory) is = absurd (cc)
never_rows _ is = absurd (cc)
