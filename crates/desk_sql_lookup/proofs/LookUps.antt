-- What a look-up does, from what its calls do.
use Rattle.std.proofs.Common.{◌≡◌, ℕ, List, map, IsTrue, Ok, Err, Result, IfErr, IfOk, OnErr}
use Rattle.std.proofs.Common.{OnOk, Vec, Global, refl, sym, ◌∙◌, subst}
use Rattle.std.specs.List.{AllByRecursion}
use Rattle.std.specs.Result.{IsErrAnd}
use Rattle.std.proofs.lemmas.Result.{IfErr-weaker, IfOk-weaker}
use Rattle.sqlite_trees.specs.declared.store.Store.{Ghosts}
use Rattle.sqlite_value.specs.Order.{Row}
use Rattle.sqlite.specs.Effect.{Database}
use Rattle.sqlite.specs.Held.{Held, state}
use Rattle.sqlite.specs.State.{HasCleanDisk, IsUnchanged, Shown}
use Rattle.sqlite.proofs.Callers.{unchanged_then}
use Rattle.desk_model.specs.Tables.{Tables}
use Rattle.desk_model.specs.declared.command.Fault.{Fault}
use Rattle.desk_model.specs.declared.command.Fault.TheVariants.{Memory}
use Rattle.desk_access.specs.Seen.{Kept, Looked, OfRows, Same}
use Rattle.desk_access.proofs.Chains.{same_self}
use Rattle.desk_sql_layout.specs.Held.{AreOrderly, Holds, seen_of}
use Rattle.desk_sql_layout.specs.Desk.{HasDesk}
use Rattle.desk_sql_layout.specs.Causes.{AreWritten, HasCauseIf, IsAsked, IsPlainText, IsRow}
use Rattle.desk_sql_lookup.specs.LookUps.{LooksUp, LooksUpGiven}
use Rattle.desk_sql_layout.specs.Queried.{Queries, ReadsQuery}
use Rattle.desk_sql_layout.proofs.Calls.{shown_open, shown_unchanged}
use Rattle.desk_sql_layout.proofs.Causes.{any_cause, cause_after, memory_cause, no_days}
use Rattle.desk_sql_layout.proofs.Causes.{plain_text, rows_cause}
use Rattle.desk_sql_layout.proofs.Finding.{Finds, FindsRows}
use Rattle.desk_sql_layout.proofs.Chains.{same_then_kept, same_then_same}

-- ---- of a query

module _ {S V : Type 0} (g : Ghosts S) {sql : List ℕ} {params : Row} (old new : Held S)
    (r : Result V Fault)
    {Shows : V → Type 0} {Shown_if : Tables → Type 0}
    (asks : Queries g sql params old new r Shows Shown_if)
    (asked : IsAsked sql params) where
  plain : IsPlainText sql
  plain = plain_text asked

  looked : Looked (seen_of (state g old)) (seen_of (state g new)) r
  looked = go r (asks.ok plain) (asks.err plain)
    where
      go : (r : Result V Fault) → IfOk r
          (λ v. Same (seen_of (state g old)) (seen_of (state g new))
          × (HasCleanDisk (state g new) → Shows v))
          → OnErr r (Kept (seen_of (state g old)) (seen_of (state g new)))
          → Looked (seen_of (state g old)) (seen_of (state g new)) r
      go (Ok v) it kept = it.0
      go (Err e) it kept = kept

  -- what it found of the tables, from what it shows of the query
  queried : (If : Tables → Type 0) (Is : V → Tables → Type 0)
      → ((v : V) → Shows v → IsTrue (state g old).is_open)
      → ((v : V) → Shows v → HasDesk old.schema → IsUnchanged (state g old) (state g new))
      → ((v : V) (t : Tables) → Shows v → Holds t (state g old).now → Is v t)
      → IfErr r (HasCauseIf If (state g old) (state g new)) → LooksUpGiven g If old new r Is
  queried If Is opened still right cause = record {
    found = IfOk-weaker r _ _ (λ v it clean t holds.
        let shows = it.1 clean in
        right v t shows (holds (it.0.kept.spared.honest clean) (opened v shows)).holds)
        (asks.ok plain);
    kept = looked;
    unchanged = go r (asks.ok plain);
    cause = cause;
    limit = asks.limit;
    mode = asks.mode;
  }
    where
      go : (r : Result V Fault) → IfOk r
          (λ v. Same (seen_of (state g old)) (seen_of (state g new))
          × (HasCleanDisk (state g new) → Shows v))
          → OnOk r (HasCleanDisk (state g new) → IsTrue (state g old).is_open
          → HasDesk old.schema → IsUnchanged (state g old) (state g new))
      go (Ok v) it = λ clean is schema. still v (it.1 clean) schema
      go (Err e) it = tt

module _ {S : Type 0} (g : Ghosts S) {sql : List ℕ} {params : Row} (old new : Held S) where
  shown_still : (rows : List Row) → IsAsked sql params
      → Shown sql params (state g old) (state g new) rows
      → HasDesk old.schema → IsUnchanged (state g old) (state g new)
  shown_still rows asked shown schema =
      shown_unchanged sql params (state g old) (state g new) rows schema
      (plain_text asked) shown

  -- the rows of a query
  pub query_finds : {Is : Tables → List Row → Type 0} → Finds sql params Is
      → (r : Result (Vec Row Global) Fault)
      → Queries g sql params old new r
      (λ rows. Shown sql params (state g old) (state g new) rows.items)
      (λ t. Unit {0})
      → LooksUp g old new r (λ rows t. Is t rows.items)
  query_finds {Is} it r asks =
      queried g old new r asks it.asked (λ t. Unit {0}) (λ rows t. Is t rows.items)
      (λ rows shown. (shown_open sql params (state g old) (state g new) rows.items shown).0)
      (λ rows shown schema. shown_still rows.items it.asked shown schema)
      (λ rows t shown holds. it.right (state g old) (state g new) rows.items t shown holds)
      (asks.cause it.asked)

  -- rows of a query that were read
  pub rows_found : {T V : Type 0} {cells : T → Row} {xs : Tables → List T}
      → FindsRows sql params cells xs
      → (r : Result V Fault) (Told : V → List T → Type 0)
      → ReadsQuery g cells (λ x. Unit {0}) Told sql params old new r
      → (If : Tables → Type 0) (Is : V → Tables → Type 0)
      → ((v : V) (t : Tables) → AreOrderly t → Told v (xs t) → Is v t)
      → LooksUpGiven g If old new r Is
  rows_found {cells = cells} {xs = xs} it r Told asks If Is so =
      queried g old new r asks it.finds.asked If Is (λ v shows. shows.0)
      (λ v shows schema. let told = shows.1 schema in
      shown_still told.0 it.finds.asked told.1 schema)
      (λ v t shows held.
      let told = shows.1 held.rows.declared in
      so v t held.orderly (told.2 (xs t)
      (it.finds.right (state g old) (state g new) told.0 t told.1 held)))
      (IfErr-weaker r _ _ (λ fault has. record {
        cause = λ clean opened unlimited t holds written any. has.cause clean opened unlimited t
            holds written (record {
              reads = λ held rows shown.
                  let is = it.finds.right (state g old) (state g new) rows t shown held in (
                    xs t,
                    is,
                    subst (AllByRecursion IsRow) (sym is) (it.written t written),
                    no_days (xs t),
                  );
            });
      }) (asks.cause it.finds.asked))

-- ---- of what was looked up

looked_so : {S B : Type 0} (g : Ghosts S) (old new : Held S) (r : Result B Fault)
    → Same (seen_of (state g old)) (seen_of (state g new))
    → Looked (seen_of (state g old)) (seen_of (state g new)) r
looked_so g old new (Ok x) same = same
looked_so g old new (Err fault) same = same.kept

on_ok : {B : Type 0} (r : Result B Fault) (P : Type 0) → P → OnOk r P
on_ok (Ok x) P it = it
on_ok (Err fault) P it = tt

module _ {S A : Type 0} (g : Ghosts S)
    (old new : Held S) {Given : Tables → Type 0} {Is : A → Tables → Type 0} {x : A}
    (first : LooksUpGiven g Given old new (Ok x) Is) {B : Type 0} (If : Tables → Type 0)
    (r : Result B Fault) (Has : B → Tables → Type 0) where
  -- the outcome, without another look-up
  pub then_tells : IfOk r (λ y. OfRows (Has y) (seen_of (state g old)) (seen_of (state g new)))
      → IfErr r (HasCauseIf If (state g old) (state g new)) → LooksUpGiven g If old new r Has
  then_tells found cause = record {
    found = found;
    kept = looked_so g old new r first.kept;
    unchanged = on_ok r _ first.unchanged;
    cause = cause;
    limit = first.limit;
    mode = first.mode;
  }

  -- its rows are read
  module _ {X : Type 0} (cells : X → Row) (rows : List Row) (xs : Tables → List X)
      (shown : HasCleanDisk (state g new) → (t : Tables) → (seen_of (state g old)).holds t → If t
      → rows ≡ map cells (xs t))
      (all : (t : Tables) → AreWritten t → AllByRecursion IsRow (map cells (xs t)))
      (Told : B → List X → Type 0) (tells : (y : B) (t : Tables) → (If t → Told y (xs t)) → Has y t)
      (value : IfOk r (λ y. (ys : List X) → rows ≡ map cells ys → Told y ys)) where
    told : IfOk r (λ y. OfRows (Has y) (seen_of (state g old)) (seen_of (state g new)))
    told = IfOk-weaker r _ _ (λ y is clean t holds. tells y t
        (λ so. is (xs t) (shown clean t holds so))) value

    pub then_rows : IfErr r (λ fault. (ys : List X) → rows ≡ map cells ys
        → AllByRecursion IsRow rows → fault ≡ Memory) → LooksUpGiven g If old new r Has
    then_rows cause = then_tells told
        (rows_cause cells If (state g old) (state g new) r rows xs shown all cause)

-- ---- of a look-up that failed

module _ {S A B : Type 0} (g : Ghosts S) (old new : Held S) {Is : A → Tables → Type 0}
    (r : Result B Fault) (fault : Fault) (is : IsErrAnd r (λ e. e ≡ fault))
    (Has : B → Tables → Type 0) where
  -- its fault is returned
  pub fails_too : (If : Tables → Type 0) → LooksUpGiven g If old new (Err fault) Is
      → LooksUpGiven g If old new r Has
  fails_too If first = go r is
    where
      go : (r : Result B Fault) → IsErrAnd r (λ e. e ≡ fault) → LooksUpGiven g If old new r Has
      go (Ok y) is = absurd is
      go (Err e) is = record {
        found = tt;
        kept = first.kept;
        unchanged = tt;
        cause = rw is first.cause;
        limit = first.limit;
        mode = first.mode;
      }

  pub fails_any : (If : Tables → Type 0) → LooksUp g old new (Err fault) Is
      → LooksUpGiven g If old new r Has
  fails_any If first = fails_too If
      (record {
        found = tt;
        kept = first.kept;
        unchanged = tt;
        cause = any_cause If (state g old) (state g new) fault first.cause;
        limit = first.limit;
        mode = first.mode;
      })

-- no memory was left
pub lacks_memory : {S A B : Type 0} (g : Ghosts S)
    (old new : Held S) {Given : Tables → Type 0} {Is : A → Tables → Type 0} {x : A}
    → LooksUpGiven g Given old new (Ok x) Is
    → (If : Tables → Type 0) (r : Result B Fault) (Has : B → Tables → Type 0)
    → IsErrAnd r (λ e. e ≡ Memory) → LooksUpGiven g If old new r Has
lacks_memory {A = A} g old new {Is = Is} first If r Has is =
    fails_too {A = A} g old new {Is = Is} r Memory is Has If
    (record {
      found = tt;
      kept = first.kept.kept;
      unchanged = tt;
      cause = memory_cause If (state g old) (state g new) Memory refl;
      limit = first.limit;
      mode = first.mode;
    })

-- ---- of one look-up after another

-- none so far
pub looks_none : {S A : Type 0} (g : Ghosts S) (h : Held S) (If : Tables → Type 0) (x : A)
    (Is : A → Tables → Type 0) → ((t : Tables) → Is x t) → LooksUpGiven g If h h (Ok x) Is
looks_none g h If x Is so = record {
  found = λ clean t holds. so t;
  kept = same_self (seen_of (state g h));
  unchanged = λ clean opened schema. (
    record {
      was_open = opened;
      is_open = opened;
      now_is = refl;
      committed_is = refl;
      mode = refl;
    },
    record { changes = refl; last_rowid = refl },
    refl,
  );
  cause = tt;
  limit = refl;
  mode = λ none. none;
}

module _ {S A : Type 0} (g : Ghosts S) (a b c : Held S)
    (If : Tables → Type 0) {Given : Tables → Type 0} {Is : A → Tables → Type 0} {x : A}
    (first : LooksUpGiven g Given a b (Ok x) Is)
    {B : Type 0} {Next : B → Tables → Type 0} (r : Result B Fault)
    (second : LooksUpGiven g If b c r Next) (Has : B → Tables → Type 0)
    (so : (y : B) (t : Tables) → Is x t → Next y t → Has y t) where
  pub looks_then : LooksUpGiven g If a c r Has
  looks_then = go r second
    where
      go : (r : Result B Fault) → LooksUpGiven g If b c r Next → LooksUpGiven g If a c r Has
      go (Ok y) next = record {
        found = λ clean t holds. so y t (first.found (next.kept.kept.spared.honest clean) t holds)
            (next.found clean t (first.kept.kept.spared.holds t holds));
        kept = same_then_same (seen_of (state g a)) (seen_of (state g b)) (seen_of (state g c))
            first.kept next.kept;
        unchanged = λ clean opened schema.
            let one = first.unchanged (next.kept.kept.spared.honest clean) opened schema in
            let two = next.unchanged clean one.0.is_open
            (subst (λ (d : Database). HasDesk d.schema) (sym one.0.now_is) schema) in
            unchanged_then (state g a) (state g b) (state g c) one two;
        cause = tt;
        limit = next.limit ∙ first.limit;
        mode = λ none. next.mode (first.mode none);
      }
      go (Err fault) next = record {
        found = tt;
        kept = same_then_kept (seen_of (state g a)) (seen_of (state g b)) (seen_of (state g c))
            first.kept next.kept;
        unchanged = tt;
        cause = cause_after If (state g a) (state g b) (state g c) first.kept first.limit
            next.kept.spared.honest fault next.cause;
        limit = next.limit ∙ first.limit;
        mode = λ none. next.mode (first.mode none);
      }
