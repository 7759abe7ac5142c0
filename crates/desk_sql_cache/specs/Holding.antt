-- The releases that hold a choice for a package, as a store keeps them beside its rows.
use Rattle.std.specs.Prelude.{◌≡◌, ℕ, Bool, List, Option, Some, None, is_some}
use Rattle.std.specs.List.{list_all, list_any}
use Rattle.desk_model.specs.Keys.{is_choice_of}
use Rattle.desk_model.specs.Lists.{IsIn}
use Rattle.desk_model.specs.Tables.{Tables}
use Rattle.desk_model.specs.declared.row.ChoiceRow.{ChoiceRow}
use Rattle.desk_model.specs.declared.row.ReleaseRow.{ReleaseRow}
use Rattle.desk_tally.specs.Kept.{place_found}
use Rattle.desk_sorted.specs.Blocks.{rows_in}
use Rattle.desk_memory_rows.specs.Holders.{AreHolders, is_holder}
use Rattle.desk_memory_rows.specs.declared.holders.Holder.{Holder}
use Rattle.desk_sql_cache.specs.declared.holders.Holders.{Holders}

-- the holders that are kept, in the order of their blocks
abbrev pub held_by : Holders → List Holder
held_by holders = rows_in holders.rows.blocks.items

-- one of these releases has this name and this place
abbrev pub IsPlace : List ReleaseRow → List ℕ → ℕ → Type 0
IsPlace releases name place = (row : ReleaseRow) × IsIn row releases × (row.name ≡ name)
    × (row.place ≡ place)

-- each of these choices is in one of these releases
abbrev pub have_releases : List ReleaseRow → List ChoiceRow → Bool
have_releases releases choices = list_all (λ row. is_some (place_found releases row.release))
    choices

-- They are the holders of these choices: each is one of these releases, with its place, and a
-- release is among them for a package exactly if one of the choices is in it.
pub record AreHoldersOf (releases : List ReleaseRow) (choices : List ChoiceRow)
    (holders : List Holder) : Type 0 where
  pub placed : (holder : Holder) → IsIn holder holders
      → IsPlace releases holder.release holder.place
  pub holding : (r : List ℕ) (d : ℕ) (p : List ℕ)
      → list_any (is_holder r d p) holders ≡ list_any (is_choice_of r d p) choices

-- they are those of the tables; if none are kept, nothing is said
abbrev pub AreHeld : Option Holders → Tables → Type 0
AreHeld None t = Unit {0}
AreHeld (Some holders) t = AreHolders (held_by holders) t
