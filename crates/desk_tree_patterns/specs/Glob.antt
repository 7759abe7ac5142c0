-- The paths of an annotation (REUSE Specification 3.3, "REUSE.toml"): which pieces a pattern has,
-- and which paths it matches. 42 is `*`, 47 is `/` and 92 is the backslash.
use Rattle.std.specs.Prelude.{◌⊎◌, ◌≡◌, ◌≢◌, slice_index, ℕ, List, [], ◌∷◌, ◌++◌, All}
use Rattle.desk_tree_patterns.specs.declared.glob.Piece.{Piece}
use Rattle.desk_tree_patterns.specs.declared.glob.Piece.TheVariants.{Byte, InName, InPath}

-- the stretches of a path that a piece stands for: its byte, any bytes except `/`, or any bytes
abbrev pub Covers : Piece → List ℕ → Type 0
Covers (Byte b) stretch = stretch ≡ b ∷ []
Covers InName stretch = All (λ b. b ≢ 47) stretch
Covers InPath stretch = Unit {0}

-- the path divides into stretches, one for each piece in order
abbrev pub IsMatch : List Piece → List ℕ → Type 0
IsMatch [] path = path ≡ []
IsMatch (p ∷ ps) path = (stretch : List ℕ) × (rest : List ℕ) × (path ≡ stretch ++ rest)
    × Covers p stretch × IsMatch ps rest

-- the first piece of a pattern, and what follows it: two asterisks are `**`; a backslash stands for
-- the byte after it, or at the end of the pattern for itself
abbrev pub Begins : List ℕ → Piece → List ℕ → Type 0
Begins pattern (Byte b) rest = (pattern ≡ 92 ∷ b ∷ rest)
    ⊎ ((pattern ≡ b ∷ rest) × (b ≢ 42) × (b ≡ 92 → rest ≡ []))
Begins pattern InName rest = (pattern ≡ 42 ∷ rest) × (slice_index rest 0 ≢ 42)
Begins pattern InPath rest = pattern ≡ 42 ∷ 42 ∷ rest

-- a pattern is these pieces, one after another
abbrev pub Spells : List ℕ → List Piece → Type 0
Spells pattern [] = pattern ≡ []
Spells pattern (p ∷ ps) = (rest : List ℕ) × Begins pattern p rest × Spells rest ps
