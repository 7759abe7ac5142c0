-- The package and the term that a row is for.
use Rattle.std.specs.Prelude.{◌≡◌, ℕ, List, ◌∷◌, filter, map}
use Rattle.desk_snapshot.specs.Conditions.{Held}
use Rattle.desk_snapshot.specs.Rows.{is_frozen_in}
use Rattle.desk_snapshot.specs.declared.rows.StoredChoice.{StoredChoice}
use Rattle.desk_snapshot.specs.declared.rows.StoredFrozen.{StoredFrozen}

-- a choice, apart from its release
abbrev pub chosen_as : StoredChoice → Held
chosen_as row = record { document = row.document; package_id = row.package_id; term = row.term }

-- a frozen term, apart from its release and its rule
abbrev pub frozen_as : StoredFrozen → Held
frozen_as row = record { document = row.document; package_id = row.package_id; term = row.term }

-- what is frozen in a release, among these rows
abbrev pub held_in : List ℕ → List StoredFrozen → List Held
held_in release rows = map frozen_as (filter (is_frozen_in release) rows)

-- the list doesn't start with this one
abbrev pub StartsOtherwise : Held → List Held → Type 0
StartsOtherwise one all = (others : List Held) → all ≡ one ∷ others → ⊥
