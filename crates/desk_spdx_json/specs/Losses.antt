-- What the laws say of documents without idle files.
use Rattle.std.specs.Prelude.{◌≡◌, ◌⊎◌, ℕ, Bool, true, List, [], ◌∷◌, Some, codes}
use Rattle.std.specs.Prelude.{is_some, unwrap_or, if◌then◌else◌}
use Rattle.serde_json.specs.Data.{Data}
use Rattle.serde_json.specs.Find.{get}
use Rattle.desk_spdx_json.specs.Steps.{StepText}
use Rattle.desk_spdx_json.specs.Parts.{tie_step}

-- the value that is the document
abbrev pub document_in : Data → Data
document_in d = if is_some (get (codes "spdxVersion") d) then d
    else unwrap_or (get (codes "sbom") d) d

-- the second steps are the first ones without some, of which each may go
abbrev pub IsWithout : (StepText → Type 0) → List StepText → List StepText → Type 0
IsWithout MayGo [] few = few ≡ []
IsWithout MayGo (s ∷ ss) few = (MayGo s × IsWithout MayGo ss few)
    ⊎ ((rest : List StepText) × (few ≡ s ∷ rest) × IsWithout MayGo ss rest)

-- the relationship by which an element CONTAINS an idle file
abbrev pub ContainsIdle : (List ℕ → Bool) → List ℕ → StepText → Type 0
ContainsIdle idle owner s = (place : List ℕ) × (id : List ℕ) × (idle id ≡ true)
    × (s ≡ tie_step place owner (codes "CONTAINS") (Some id))
