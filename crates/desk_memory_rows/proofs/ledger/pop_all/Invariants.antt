use Rattle.std.proofs.Common.{◌≡◌, List, map, drop}
use Rattle.std.specs.Vec.{vec_len}
use Rattle.desk_model.specs.declared.row.ChangeRow.{ChangeRow}
use Rattle.desk_memory_rows.specs.Ledgers.{place_of, pushed}
use Rattle.desk_memory_rows.proofs.Pushing.{Remains}
use Rattle.desk_memory_rows.proofs.ledger.pop_all.Given as goal

abbrev pub invariant-loop-place : goal.invariant-loop-place
invariant-loop-place l = record {
  len : vec_len l.groups ≡ vec_len l.fn.groups;
  undone : (before : List (List ChangeRow)) (changes : List ChangeRow)
      → map place_of changes ≡ l.places → l.fn.groups.items ≡ pushed changes before
      → Remains before (drop l.place-index l.places) l.groups.items;
}
