-- What writes a change of any tables also writes it of those of which something is known.
use Rattle.std.proofs.Common.{Bool, Ok, Err, Result, ℕ}
use Rattle.sqlite.specs.State.{State}
use Rattle.desk_model.specs.Tables.{applied}
use Rattle.desk_model.specs.declared.command.Change.{Change}
use Rattle.desk_model.specs.declared.command.Fault.{Fault}
use Rattle.desk_sql_layout.specs.Held.{rows_of}
use Rattle.desk_sql_write.specs.Replacing.{rows_before, rows_after}
use Rattle.desk_sql_write.specs.Taking.{FailsOnlyAs, FailsOnlyFor}
use Rattle.desk_sql_write.specs.Written.{Writes, WritesAs}

module _ (is_new : Bool) (change : Change) (old new : State) where
  pub known_writes : (r : Result (Unit {0}) Fault) → Writes rows_of (applied change) old new r
      → WritesAs (rows_before is_new change) (rows_after is_new change) old new r
  known_writes (Ok done) w = λ clean inside.
      let it = w clean inside in
      record { inside = it.inside; kept = it.kept; change = λ a has. it.change a.tables has }
  known_writes (Err fault) w = w

  pub known_fails : (many : ℕ) (r : Result (Unit {0}) Fault)
      → FailsOnlyFor rows_of (applied change) many old new r
      → FailsOnlyAs (rows_before is_new change) (rows_after is_new change) many old new r
  known_fails many (Ok done) w = λ clean inside.
      let it = w clean inside in
      record { is_open = it.is_open; room = λ a has n room. it.room a.tables has n room }
  known_fails many (Err fault) w = record {
    cause = λ clean inside opened unlimited a has before after room.
        w.cause clean inside opened unlimited a.tables has before after room;
  }
