-- What may be known of the tables before a change is written, so that nothing need be dropped
-- first.
use Rattle.std.specs.Prelude.{◌≡◌, ℕ, Bool, true, None, List}
use Rattle.sqlite_value.specs.Order.{Row}
use Rattle.desk_model.specs.Conclusions.{licence_for}
use Rattle.desk_model.specs.Tables.{Tables, applied}
use Rattle.desk_model.specs.declared.command.Change.{Change}
use Rattle.desk_model.specs.declared.command.Change.TheVariants as change
use Rattle.desk_sql_layout.specs.Held.{rows_of}

-- The reference that a change adopts isn't adopted yet. Nothing is asked of any other change, since
-- each drops what it replaces.
abbrev pub ReplacesNone : Change → Tables → Type 0
ReplacesNone (change.Adopted row) t = licence_for t.adoption row.document row.reference ≡ None
ReplacesNone _ t = Unit {0}

-- tables for which this is true, if it is known to be
abbrev pub Takes : Bool → Change → Tables → Type 0
Takes is_new change t = is_new ≡ true → ReplacesNone change t

-- tables of which that is known
pub record Taking (is_new : Bool) (change : Change) : Type 0 where
  pub tables : Tables
  pub takes : Takes is_new change tables

module _ (is_new : Bool) (change : Change) where
  -- their rows before and after the change
  abbrev pub rows_before : Taking is_new change → ℕ → List Row
  rows_before a = rows_of a.tables

  -- and after the change
  abbrev pub rows_after : Taking is_new change → ℕ → List Row
  rows_after a = rows_of (applied change a.tables)
