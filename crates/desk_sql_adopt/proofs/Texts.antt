-- What the database answers when it is asked for its version.
use Rattle.std.proofs.Common.{◌≡◌, ℕ, Bool, List, [], ◌∷◌, codes, true, refl, inl}
use Rattle.sqlite_value.specs.Order.{Row, column}
use Rattle.sqlite_sql.specs.Term.{col}
use Rattle.sqlite_resolve.specs.Compile.{first, returning}
use Rattle.sqlite_tied.specs.Compute.{everything}
use Rattle.sqlite.specs.State.{State, Shown}
use Rattle.sqlite.proofs.Callers.{one_permutation}
use Rattle.desk_sql_layout.specs.Layout as d
use Rattle.desk_sql_layout.specs.Cells.{meta_cells}
use Rattle.desk_sql_layout.specs.Held.{Holds, rows_of}
use Rattle.desk_sql_layout.specs.Causes.{IsAsked}
use Rattle.desk_sql_layout.specs.Desk.{found_as}
use Rattle.desk_sql_layout.proofs.Declared.{table_at}
use Rattle.desk_sql_layout.proofs.OneQuery.{SelectsFrom, meant}
use Rattle.desk_sql_layout.proofs.Selecting.{IsMeant, select_asked}
use Rattle.desk_sql_layout.proofs.Selects.{shows_some}
use Rattle.desk_model.specs.Tables.{Tables}
use Rattle.desk_sql_adopt.specs.Reading.{Asks}
use Rattle.desk_sql_adopt.specs.Version.{version_text}
use Rattle.desk_sql_adopt.proofs.Selecting.{IsBareSelect, select_asks}

pub version_from : (at : ℕ) (not_null : Bool)
    → SelectsFrom (found_as (table_at 0) at not_null) (first version_text)
unfolding everything
version_from at not_null = (refl, refl, refl)

pub version_meant : (at : ℕ) (not_null : Bool)
    → IsMeant (meant (found_as (table_at 0) at not_null) (first version_text)) version_text 0 at []
    (col 1 0 ∷ []) [] (codes "version" ∷ [])
unfolding everything
version_meant at not_null = record { is = refl; plain = (refl, refl); suits = (refl, refl) }

version_are : IsBareSelect version_text 0 0 [] (col 1 0 ∷ []) [] (codes "version" ∷ [])
unfolding first returning everything
version_are = record {
  bare = λ schema base. refl;
  select = record { from = version_from; is = version_meant };
}

pub version_asks : Asks version_text
version_asks = select_asks version_are

pub version_asked : IsAsked version_text []
version_asked = select_asked version_are.select d.meta_table (inl refl) refl [] refl refl

pub version_read : (old new : State) (rows : List Row) (t : Tables)
    → Shown version_text [] old new rows
    → Holds t old.now → rows ≡ meta_cells ∷ []
version_read old new rows t shown holds =
    let this = d.meta_table in
    one_permutation meta_cells rows
    (shows_some this.name 0 this.columns this.key this.primary this.uniques this.orders 0 refl
    (λ (x : Unit {0}). meta_cells) (rows_of t) (tt ∷ []) refl old.now holds.rows version_text
    (codes "version" ∷ [])
    [] (col 1 0 ∷ []) ([]) version_are.select [] (λ (cs : Row). true)
    (λ (cs : Row). ([], column cs 0 ∷ [])) (λ x. true) (λ r. refl) (λ r. refl) (λ x. refl) old new
    rows shown refl)
