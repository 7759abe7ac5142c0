-- What `migrate` writes.
use Rattle.std.specs.Prelude.{ℕ, List, ◌++◌, codes, decimal}

-- the old version and the new one
abbrev pub migration_text : ℕ → List ℕ
migration_text version = codes "migrated " ++ (decimal version ++ codes " to 3")
