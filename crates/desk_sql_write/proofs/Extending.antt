-- A write, and then one that only adds rows, behind those of each table.
use Rattle.std.proofs.Common.{◌≡◌, ◌∙◌, inl, inr, ℕ, ◌+◌, ◌≤◌, Bool, true, false, cond, List, []}
use Rattle.std.proofs.Common.{◌∷◌, ◌++◌, drop, filter, get_or, map, Ok, Err, Result, refl, sym, ap}
use Rattle.std.proofs.Common.{arith}
use Rattle.std.specs.Prelude.{◌==◌}
use Rattle.std.specs.List.{AllByRecursion}
use Rattle.std.specs.Result.{IsErrAnd}
use Rattle.std.proofs.lemmas.List.{append-nil, append_assoc}
use Rattle.sqlite_value.specs.Order.{Row}
use Rattle.sqlite_schema.specs.declared.schema.Table.{Table}
use Rattle.sqlite.specs.State.{State}
use Rattle.desk_model.specs.Tables.{Tables}
use Rattle.desk_model.specs.declared.command.Fault.{Fault}
use Rattle.desk_model.specs.declared.row.ChangeRow.{ChangeRow}
use Rattle.desk_model.specs.declared.row.DutyRow.{DutyRow}
use Rattle.desk_model.specs.declared.row.ExtractedRow.{ExtractedRow}
use Rattle.desk_model.specs.declared.row.FrozenRow.{FrozenRow}
use Rattle.desk_model.specs.declared.row.PackageRow.{PackageRow}
use Rattle.desk_model.specs.Moves.{is_waiver}
use Rattle.desk_sql_layout.specs.Cells.{package_cells, extracted_cells, frozen_cells, duty_cells}
use Rattle.desk_sql_layout.specs.Cells.{change_cells, waiver_cells}
use Rattle.desk_sql_layout.specs.Held.{rows_of}
use Rattle.desk_sql_layout.specs.Layout.{desk_schema}
use Rattle.desk_sql_write.specs.Taking.{CanStand}
use Rattle.desk_sql_write.specs.Turning.{Adds, Turns, with_rows, with_steps, with_raised, with_parts}
use Rattle.desk_sql_write.proofs.Going.{IsBetween, can_stand, along, first_fails, next_turns, then_turns}

pub record Extends (more : (ℕ → List Row) → ℕ → List Row) : Type 0 where
  pub new : (rows : ℕ → List Row) (tree : ℕ) → (added : List Row)
      × (more rows tree ≡ rows tree ++ added)

-- ---- what adds rows

pub table_extends : (tree : ℕ) (added : List Row) → Extends (with_rows tree added)
table_extends tree added = record { new = λ rows other. go (rows other) (other == tree) }
  where
    go : (had : List Row) (here : Bool) → (new : List Row)
        × (cond here (had ++ added) had ≡ had ++ new)
    go had true = (added, refl)
    go had false = ([], sym (append-nil had))

pub both_extend : (first next : (ℕ → List Row) → ℕ → List Row) → Extends first → Extends next
    → Extends (λ rows. next (first rows))
both_extend first next a b = record {
  new = λ rows tree.
      let was = a.new rows tree in
      let is = b.new (first rows) tree in (
        was.0 ++ is.0,
        is.1 ∙ ap (λ l. l ++ is.0) was.1 ∙ append_assoc (rows tree) was.0 is.0,
      );
}

pub steps_extend : (changes : List ChangeRow) → Extends (with_steps changes)
steps_extend changes = both_extend (with_rows 25 (map change_cells changes))
    (with_rows 28 (map waiver_cells (filter is_waiver changes)))
    (table_extends 25 (map change_cells changes))
    (table_extends 28 (map waiver_cells (filter is_waiver changes)))

pub raised_extend : (duties : List DutyRow) (changes : List ChangeRow)
    → Extends (with_raised duties changes)
raised_extend duties changes = both_extend (with_rows 23 (map duty_cells duties))
    (with_steps changes) (table_extends 23 (map duty_cells duties)) (steps_extend changes)

pub terms_extend : (frozen : List FrozenRow) (duties : List DutyRow) (changes : List ChangeRow)
    → Extends (λ rows. with_raised duties changes (with_rows 21 (map frozen_cells frozen) rows))
terms_extend frozen duties changes = both_extend (with_rows 21 (map frozen_cells frozen))
    (with_raised duties changes) (table_extends 21 (map frozen_cells frozen))
    (raised_extend duties changes)

pub parts_extend : (packages : List PackageRow) (references : List ExtractedRow)
    → Extends (with_parts packages references)
parts_extend packages references = both_extend (with_rows 6 (map package_cells packages))
    (with_rows 8 (map extracted_cells references)) (table_extends 6 (map package_cells packages))
    (table_extends 8 (map extracted_cells references))

-- ---- two writes

-- tables that can hold rows with more behind them can hold these rows
pub front_stands : {more : (ℕ → List Row) → ℕ → List Row} (rows : ℕ → List Row) → Extends more
    → CanStand (more rows) → CanStand rows
front_stands {more} rows extends can = can_stand (more rows) rows (more rows)
    (each desk_schema.tables) can can
  where
    each : (tables : List Table) → AllByRecursion
        (λ t. IsBetween (more rows t.tree) (rows t.tree) (more rows t.tree)) tables
    each [] = tt
    each (t ∷ tables) = (inr (inr (extends.new rows t.tree)), each tables)

module _ {A : Type 0} {f g : A → ℕ → List Row} {more : (ℕ → List Row) → ℕ → List Row} where
  -- both
  pub then_extends : {j k : ℕ} {a b c : State} {r : Result (Unit {0}) Fault} → Extends more
      → Turns f g j a b (Ok tt) → Adds more k b c r → Turns f (λ x. more (g x)) (j + k) a c r
  then_extends {j} {k} {a} {b} {c} {r} extends v w = then_turns f g (λ x. more (g x)) j k a b c r
      (λ x before after. front_stands (g x) extends after) v (along g (λ rows. rows) more k b c r w)

  -- the first of them adds nothing
  pub next_extends : {k : ℕ} {a b c : State} {r : Result (Unit {0}) Fault} → Extends more
      → Turns f g 0 a b (Ok tt) → Adds more k b c r → Turns f (λ x. more (g x)) k a c r
  next_extends {k} {a} {b} {c} {r} extends v w = next_turns f g (λ x. more (g x)) k a b c r
      (λ x before after. front_stands (g x) extends after) v (along g (λ rows. rows) more k b c r w)

  -- the first of them failed
  pub never_extends : {j l : ℕ} {a b : State} {r : Result (Unit {0}) Fault} {fault : Fault}
      → Extends more → j ≤ l → IsErrAnd r (λ e. e ≡ fault) → Turns f g j a b (Err fault)
      → Turns f (λ x. more (g x)) l a b r
  never_extends {j} {l} {a} {b} {r} {fault} extends within is v = first_fails f g
      (λ x. more (g x)) j l a b r fault is within
      (λ x before after. front_stands (g x) extends after) v

-- ---- two changes of the tables, the second one with more rows

abbrev trees : List ℕ
trees = map (λ t. t.tree) desk_schema.tables

-- the first of two changes is made in one table, and the next one leaves that table as it is
pub record ChangesOne (first next : Tables → Tables) : Type 0 where
  pub tree : ℕ
  pub same : (t : Tables) → map (rows_of (first t)) trees
      ≡ map (λ other. cond (other == tree) (rows_of (next (first t)) other) (rows_of t other)) trees

one_stands : (tree : ℕ) (old mid last : ℕ → List Row)
    → map mid trees ≡ map (λ other. cond (other == tree) (last other) (old other)) trees
    → CanStand old → CanStand last → CanStand mid
one_stands tree old mid last same = can_stand old mid last (each desk_schema.tables same)
  where
    at : (other : ℕ) (here : Bool) → mid other ≡ cond here (last other) (old other)
        → IsBetween (old other) (mid other) (last other)
    at other true is = inr (inl is)
    at other false is = inl is

    each : (tables : List Table) → map mid (map (λ t. t.tree) tables)
        ≡ map (λ other. cond (other == tree) (last other) (old other)) (map (λ t. t.tree) tables)
        → AllByRecursion (λ t. IsBetween (old t.tree) (mid t.tree) (last t.tree)) tables
    each [] same = tt
    each (t ∷ tables) same = (
      at t.tree (t.tree == tree) (ap (λ l. get_or l 0 []) same),
      each tables (ap (drop 1) same),
    )

module _ {first next : Tables → Tables} {more : (ℕ → List Row) → ℕ → List Row} where
  between : ChangesOne first next → Extends more → (t : Tables) → CanStand (rows_of t)
      → CanStand (more (rows_of (next (first t)))) → CanStand (rows_of (first t))
  between one extends t before after = one_stands one.tree (rows_of t) (rows_of (first t))
      (rows_of (next (first t))) (one.same t) before
      (front_stands (rows_of (next (first t))) extends after)

  -- both
  pub next_changes : {k : ℕ} {a b c : State} {r : Result (Unit {0}) Fault} → ChangesOne first next
      → Extends more → Turns rows_of (λ t. rows_of (first t)) 0 a b (Ok tt)
      → Turns rows_of (λ t. more (rows_of (next t))) k b c r
      → Turns rows_of (λ t. more (rows_of (next (first t)))) k a c r
  next_changes {k} {a} {b} {c} {r} one extends v w = next_turns rows_of (λ t. rows_of (first t))
      (λ t. more (rows_of (next (first t)))) k a b c r (between one extends) v
      (along first rows_of (λ t. more (rows_of (next t))) k b c r w)

  -- the first of them failed
  pub never_changes : {k : ℕ} {a b : State} {r : Result (Unit {0}) Fault} {fault : Fault}
      → ChangesOne first next → Extends more → IsErrAnd r (λ e. e ≡ fault)
      → Turns rows_of (λ t. rows_of (first t)) 0 a b (Err fault)
      → Turns rows_of (λ t. more (rows_of (next (first t)))) k a b r
  never_changes {k} {a} {b} {r} {fault} one extends is v = first_fails rows_of
      (λ t. rows_of (first t)) (λ t. more (rows_of (next (first t)))) 0 k a b r fault is
      (omega arith) (between one extends) v
