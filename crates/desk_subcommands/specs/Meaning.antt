-- What `explain` writes, and the status that it returns.
use Rattle.std.specs.Prelude.{◌≡◌, ◌≢◌, ℕ, List, [], Option}
use Rattle.std.specs.List.{flat_map}
use Rattle.std.specs.Io.KnownBytes.{Appends}
use Rattle.desk_explain.specs.declared.entry.Entry.{Entry}
use Rattle.desk_explain.specs.Explanations.{block}

-- there are entries of the name, and the block of each is written
abbrev pub Explains : List Entry → Option (List ℕ) → Option (List ℕ) → ℕ → Type 0
Explains entries old new status = (entries ≢ []) × Appends old new (flat_map block entries)
    × (status ≡ 0)
