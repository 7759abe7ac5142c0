-- What a stop leaves of the empty desk, and of one that is adopted.
use Rattle.std.proofs.Common.{[], ⊎_elim}
use Rattle.std.specs.Prelude.{IsTrue}
use Rattle.sqlite_trees.specs.Tree.{Trees}
use Rattle.sqlite.specs.State.{State, HasCleanDisk}
use Rattle.desk_model.specs.Readings.{Readings}
use Rattle.desk_model.specs.Tables.{Tables, tables}
use Rattle.desk_access.specs.Seen.{Seen}
use Rattle.desk_core.specs.Desks.{Secures}
use Rattle.desk_sql_layout.specs.Held.{Stands, seen_of}
use Rattle.desk_sql_adopt.specs.Reading.{HasStayed}
use Rattle.desk_store.specs.Adopting.{IsEmpty}

pub secure_empty : (s : Seen Trees) → IsEmpty s → s.is_honest → (w : Readings)
    → Secures Stands (tables w []) s
secure_empty s empty clean w = record {
  is_open = empty.is_open clean;
  leaves = λ x left. empty.leaves clean x left w;
}

-- reading doesn't change what a stop leaves
pub secure_stayed : (old new : State) → HasStayed old new → HasCleanDisk new → (t : Tables)
    → Secures Stands t (seen_of old) → Secures Stands t (seen_of new)
secure_stayed old new stayed clean t s = record {
  is_open = stayed.1 clean s.is_open;
  leaves = λ x left. s.leaves x
      (⊎_elim (λ was. was) (λ none. absurd none) (stayed.0.survives.crash clean x left));
}
