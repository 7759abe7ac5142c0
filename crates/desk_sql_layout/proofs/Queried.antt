-- What a call does that reads the rows of a query.
use Rattle.std.proofs.Common.{◌≡◌, inl, ℕ, List, map, Ok, Err, Result, IfErr, IfOk, OnErr}
use Rattle.std.proofs.Common.{Vec, Global}
use Rattle.std.specs.List.{AllByRecursion}
use Rattle.std.specs.Result.{IsErrAnd}
use Rattle.std.proofs.lemmas.Result.{IfErr-weaker, IfOk-weaker}
use Rattle.sqlite_trees.specs.declared.store.Store.{Ghosts}
use Rattle.sqlite_value.specs.Order.{Row}
use Rattle.sqlite.specs.Held.{Held, state}
use Rattle.sqlite.specs.State.{Shown}
use Rattle.desk_model.specs.Tables.{Tables}
use Rattle.desk_model.specs.declared.command.Fault.{Fault}
use Rattle.desk_model.specs.declared.command.Fault.TheVariants.{Memory}
use Rattle.desk_access.specs.Seen.{Kept}
use Rattle.desk_sql_layout.specs.Held.{seen_of}
use Rattle.desk_sql_layout.specs.Causes.{IsRow}
use Rattle.desk_sql_layout.specs.Queried.{Queries, ReadsQuery}
use Rattle.desk_sql_layout.proofs.Calls.{shown_open}
use Rattle.desk_sql_layout.proofs.Causes.{any_cause, plain_text}

module _ {S : Type 0} (g : Ghosts S) {sql : List ℕ} {params : Row} (old new : Held S) where
  -- rows that a query showed are read, in any way
  pub rows_told : {T V : Type 0} (cells : T → Row) (has_days : T → Type 0)
      (Told : V → List T → Type 0) (rows : Vec Row Global)
      → Queries g sql params old new (Ok rows)
      (λ rows. Shown sql params (state g old) (state g new) rows.items)
      (λ t. Unit {0})
      → (r : Result V Fault) → IfOk r (λ v. (xs : List T) → rows.items ≡ map cells xs → Told v xs)
      → IfErr r (λ fault. (xs : List T) → rows.items ≡ map cells xs
      → AllByRecursion IsRow rows.items
      → AllByRecursion has_days xs → fault ≡ Memory)
      → ReadsQuery g cells has_days Told sql params old new r
  rows_told {V = V} cells has_days Told rows asks r value cause = record {
    ok = λ plain.
        let it = asks.ok plain in
        IfOk-weaker r _ _ (λ v told. (
          it.0,
          λ clean. (
            (shown_open sql params (state g old) (state g new) rows.items (it.1 clean)).0,
            λ schema. (rows.items, it.1 clean, told),
          ),
        )) value;
    err = λ plain. kept r (asks.ok plain).0.kept;
    cause = λ asked.
        let read = asks.ok (plain_text asked) in
        let shown = read.1 in
        IfErr-weaker r _ _ (λ fault told. record {
          cause = λ clean opened unlimited t holds written can.
              let held = (holds (read.0.kept.spared.honest clean) opened).holds in
              let read = can.reads held rows.items (shown clean) in
              inl (told read.0 read.1 read.2 read.3);
        }) cause;
    limit = asks.limit;
    mode = asks.mode;
  }
    where
      kept : (r : Result V Fault) → Kept (seen_of (state g old)) (seen_of (state g new))
          → OnErr r (Kept (seen_of (state g old)) (seen_of (state g new)))
      kept (Ok v) it = tt
      kept (Err e) it = it

  -- a query failed, and `?` returns its fault
  pub query_failed : {V W : Type 0} {Shows : V → Type 0} {Tells : W → Type 0} (If : Tables → Type 0)
      (fault : Fault)
      → Queries g sql params old new (Err fault) Shows (λ t. Unit {0}) → (r : Result W Fault)
      → IsErrAnd r (λ e. e ≡ fault) → Queries g sql params old new r Tells If
  query_failed If fault asks (Ok v) is = absurd is
  query_failed If fault asks (Err e) is = record {
    ok = λ plain. tt;
    err = asks.err;
    cause = λ asked. rw is (any_cause If (state g old) (state g new) fault (asks.cause asked));
    limit = asks.limit;
    mode = asks.mode;
  }
