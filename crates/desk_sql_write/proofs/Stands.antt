-- The tables can hold duties whose states are set if they could hold them before.
use Rattle.std.proofs.Common.{◌≡◌, inl, ℕ, ◌^◌, ◌<◌, ◌≤◌, Bool, true, false, cond, List, []}
use Rattle.std.proofs.Common.{◌∷◌, filter, map, length, refl, arith}
use Rattle.std.specs.List.{AllByRecursion}
use Rattle.sqlite_value.specs.Keys.{plain}
use Rattle.sqlite_value.specs.Order.{Row}
use Rattle.sqlite_schema.specs.Rules.{agree}
use Rattle.sqlite_rules.specs.Lists.{Has}
use Rattle.sqlite_rules.proofs.ListLemmas.{all_has, has_got, has_right}
use Rattle.desk_model.specs.Keys.{is_duty}
use Rattle.desk_model.specs.Lists.{updated}
use Rattle.desk_model.specs.Names.{duty_state_name}
use Rattle.desk_model.specs.States.{state_after}
use Rattle.desk_model.specs.Tables.{Tables, moved_by, with_duty_state}
use Rattle.desk_model.specs.declared.row.ChangeRow.{ChangeRow}
use Rattle.desk_model.specs.declared.row.ReleaseRow.{ReleaseRow}
use Rattle.desk_model.specs.declared.row.DutyRow.{DutyRow}
use Rattle.desk_model.specs.declared.state.DutyState.{DutyState}
use Rattle.desk_model.specs.declared.state.DutyState.TheVariants as duty
use Rattle.desk_sql_layout.specs.Cells.{duty_cells, release_cells}
use Rattle.desk_sql_layout.specs.Held.{rows_of}
use Rattle.desk_sql_layout.specs.Layout.{desk_schema, duty_table, releases_table}
use Rattle.desk_sql_write.specs.Taking.{IsSmall, StandsOnce, CanStand, in_cells}
use Rattle.desk_sql_write.specs.Turning.{with_rows}

state_small : (s : DutyState) → length (duty_state_name s) ≤ 10 ^ 8
state_small duty.IsOpen = omega arith
state_small duty.Met = omega arith
state_small duty.Waived = omega arith
state_small duty.Withdrawn = omega arith

set_small : (n : ℕ) (s : DutyState) (duties : List DutyRow)
    → AllByRecursion (AllByRecursion IsSmall) (map duty_cells duties)
    → AllByRecursion (AllByRecursion IsSmall)
    (map duty_cells (updated (is_duty n) (with_duty_state s) duties))
set_small n s [] small = tt
set_small n s (d ∷ duties) small = (go (is_duty n d), set_small n s duties small.1)
  where
    go : (b : Bool) → AllByRecursion IsSmall (duty_cells (cond b (with_duty_state s d) d))
    go true = assumption (state_small s)
    go false = small.0

set_once : (n : ℕ) (s : DutyState) (h : Row → Bool)
    → ((d : DutyRow) → h (duty_cells (with_duty_state s d)) ≡ h (duty_cells d))
    → (duties : List DutyRow)
    → length (filter h (map duty_cells (updated (is_duty n) (with_duty_state s) duties)))
    ≡ length (filter h (map duty_cells duties))
set_once n s h same [] = refl
set_once n s h same (d ∷ duties) = go (set_once n s h same duties) (h (duty_cells d)) refl
    (is_duty n d)
  where
    go : length (filter h (map duty_cells (updated (is_duty n) (with_duty_state s) duties)))
        ≡ length (filter h (map duty_cells duties)) → (c : Bool) → h (duty_cells d) ≡ c → (b : Bool)
        → length (filter h (duty_cells (cond b (with_duty_state s d) d)
        ∷ map duty_cells (updated (is_duty n) (with_duty_state s) duties)))
        ≡ length (filter h (duty_cells d ∷ map duty_cells duties))
    go more true is true = rw (same d, is) (omega (arith, more))
    go more false is true = rw (same d, is) more
    go more true is false = rw is (omega (arith, more))
    go more false is false = rw is more

abbrev set_all : ℕ → DutyState → Tables → Tables
set_all n s t = record t { duty = updated (is_duty n) (with_duty_state s) t.duty }

listed : Has desk_schema.tables duty_table
listed = has_got desk_schema.tables 12 duty_table refl

-- a key in whose columns the state is not
set_keeps : (n : ℕ) (s : DutyState) (duties : List DutyRow) (places : List ℕ)
    → ((d : DutyRow) (key : Row) → agree plain (in_cells places) (duty_cells (with_duty_state s d))
    (in_cells places) key ≡ agree plain (in_cells places) (duty_cells d) (in_cells places) key)
    → StandsOnce (map duty_cells duties) places
    → StandsOnce (map duty_cells (updated (is_duty n) (with_duty_state s) duties)) places
set_keeps n s duties places same once key = omega (
  arith,
  once key,
  set_once n s (λ row. agree plain (in_cells places) row (in_cells places) key) (λ d. same d key)
      duties,
)

pub set_stand : (n : ℕ) (s : DutyState) (it : Tables) → CanStand (rows_of it)
    → CanStand (rows_of (set_all n s it))
set_stand n s it can =
    let small = all_has (λ t. AllByRecursion (AllByRecursion IsSmall) (rows_of it t.tree))
    desk_schema.tables duty_table can.small listed in
    let keys = all_has
    (λ t. AllByRecursion (StandsOnce (rows_of it t.tree)) (t.primary ∷ t.uniques))
    desk_schema.tables duty_table can.keys listed in
    assumption (
      set_small n s it.duty small,
      set_keeps n s it.duty (0 ∷ []) (λ d key. refl) keys.0,
      set_keeps n s it.duty (2 ∷ 3 ∷ 4 ∷ 5 ∷ 6 ∷ []) (λ d key. refl) keys.1.0,
    )

pub moved_stand : (changes : List ChangeRow) (it : Tables) → CanStand (rows_of it)
    → CanStand (rows_of (record it { duty = moved_by changes it.duty }))
moved_stand [] it can = can
moved_stand (c ∷ changes) it can = set_stand c.duty (state_after c.word)
    (record it { duty = moved_by changes it.duty }) (moved_stand changes it can)

-- ---- a release whose revision is no number of 32 bits

pub last_small : (rows : ℕ → List Row) (row : ReleaseRow)
    → CanStand (with_rows releases_table.tree (release_cells row ∷ []) rows) → row.revision < 2 ^ 32
last_small rows row can =
    let now = with_rows releases_table.tree (release_cells row ∷ []) rows in
    let small = all_has (λ t. AllByRecursion (AllByRecursion IsSmall) (now t.tree))
    desk_schema.tables releases_table can.small
    (has_got desk_schema.tables 8 releases_table refl) in
    let last = all_has (AllByRecursion IsSmall) (now 14) (release_cells row) small
    (has_right (rows 14) (release_cells row ∷ []) (release_cells row) (inl refl)) in
    last.1.1.1.1.0
