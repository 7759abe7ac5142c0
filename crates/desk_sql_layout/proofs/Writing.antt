-- What the library makes of the text of an INSERT, an UPDATE or a DELETE, proved once for all that
-- is
-- said of it.
use Rattle.std.proofs.Common.{◌≡◌, ℕ, Bool, false, List, Ok, Err, Result, refl, sym, ap, subst, ◌∙◌}
use Rattle.sqlite_schema.specs.declared.schema.Table.{Table}
use Rattle.sqlite_schema.specs.declared.schema.Schema.{Schema}
use Rattle.sqlite_schema.specs.declared.command.Command.{Command}
use Rattle.sqlite_resolve.specs.declared.compiled.Compiled.{Compiled}
use Rattle.sqlite_resolve.specs.declared.error.CompileError.{CompileError}
use Rattle.sqlite_resolve.specs.Compile.{first}
use Rattle.sqlite_rules.specs.Lists.{Has}
use Rattle.sqlite.specs.Listing.{misses_table, understood}
use Rattle.sqlite.proofs.Callers.{IsPlain, command_of}
use Rattle.desk_sql_layout.specs.Causes.{IsPlainText}
use Rattle.desk_sql_layout.specs.Desk.{HasDesk, found_as}
use Rattle.desk_sql_layout.specs.Layout.{desk_schema}
use Rattle.desk_sql_layout.proofs.Causes.{Suits}
use Rattle.desk_sql_layout.proofs.Declared.{actual, entry, has_actual, table_at, table_is}
use Rattle.desk_sql_layout.proofs.OneWrite.{Writes, compiled_write, means}
use Rattle.desk_sql_layout.proofs.Selecting.{understood_as}

-- what a text means is this command
pub record IsCommand (r : Result Compiled CompileError) (text : List ℕ) (parameters : ℕ)
    (command : Command) : Type 0 where
  pub is : command_of r ≡ command
  pub plain : IsPlain r
  pub suits : Suits text parameters r

-- A text with this many parameters is this command on a table of the desk, by the place and the
-- tree
-- of the table, whatever they are. The number is that of the table's tree in `desk_schema`.
pub record IsWrite (text : List ℕ) (parameters tree : ℕ) (command : ℕ → ℕ → Command)
    : Type 0 where
  pub from : (at : ℕ) (not_null : Bool) → Writes (found_as (table_at tree) at not_null) (first text)
  pub is : (place at : ℕ) (not_null : Bool)
      → IsCommand (means place (found_as (table_at tree) at not_null) (first text)) text parameters
      (command place at)

never_missing : (r : Result Compiled CompileError) (text : List ℕ) (parameters : ℕ)
    (command : Command) → IsCommand r text parameters command → misses_table r ≡ false
never_missing (Ok c) text parameters command it = refl
never_missing (Err e) text parameters command it = absurd it.suits

module _ {text : List ℕ} {parameters tree : ℕ} {command : ℕ → ℕ → Command}
    (it : IsWrite text parameters tree command) (t : Table) (there : Has desk_schema.tables t)
    (labelled : t.tree ≡ tree) (schema : Schema) (desk : HasDesk schema) where
  abbrev at : ℕ
  at = (entry schema desk t there).tree

  abbrev place : ℕ
  place = (entry schema desk t there).place

  same : table_at tree ≡ t
  same = ap table_at (sym labelled) ∙ table_is t there

  abbrev here : Result Compiled CompileError
  here = means place (actual schema desk t there) (first text)

  meant_here : IsCommand here text parameters (command place at)
  meant_here = subst (λ u. IsCommand (means place
      (found_as u at (entry schema desk t there).not_null)
      (first text)) text parameters (command place at)) same
      (it.is place at (entry schema desk t there).not_null)

  pub written_here : understood schema text ≡ here
  written_here = understood_as schema text here
      (compiled_write schema place (actual schema desk t there)
      (has_actual schema desk t there) text
      (subst (λ u. Writes (found_as u at (entry schema desk t there).not_null) (first text)) same
      (it.from at (entry schema desk t there).not_null)))
      (never_missing here text parameters (command place at) meant_here)

  pub writes_here : command_of (understood schema text) ≡ command place at
  writes_here = ap command_of written_here ∙ meant_here.is

  pub plain_write : IsPlain (understood schema text)
  plain_write = subst IsPlain (sym written_here) meant_here.plain

  pub suits_write : Suits text parameters (understood schema text)
  suits_write = subst (Suits text parameters) (sym written_here) meant_here.suits

pub write_plain : {text : List ℕ} {parameters tree : ℕ} {command : ℕ → ℕ → Command}
    → IsWrite text parameters tree command → (t : Table) → Has desk_schema.tables t
    → t.tree ≡ tree → IsPlainText text
write_plain it t there labelled = record { within = plain_write it t there labelled }
