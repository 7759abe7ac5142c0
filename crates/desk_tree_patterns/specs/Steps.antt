-- The steps of a search for a match.
use Rattle.std.specs.Prelude.{◌⊎◌, ◌≡◌, ◌≢◌, ◌<◌, ◌≤◌, ℕ, List, [], ◌∷◌, ◌++◌, All, Option, Some}
use Rattle.std.specs.Prelude.{None, length, take, drop}
use Rattle.desk_tree_patterns.specs.declared.glob.Piece.{Piece}
use Rattle.desk_tree_patterns.specs.declared.glob.Piece.TheVariants.{Byte, InName, InPath}
use Rattle.desk_tree_patterns.specs.declared.matching.Place.{Place}
use Rattle.desk_tree_patterns.specs.declared.matching.Search.{Search}
use Rattle.desk_tree_patterns.specs.Glob.{IsMatch, Covers}
use Rattle.desk_tree_patterns.specs.Parts.{literal, pieces}

-- a place of the search: the pieces that are still to be matched, and the rest of the text
pub record Spot : Type 0 where
  pub pieces : List Piece
  pub text : List ℕ

-- a search under way: where it is, and the places behind its last `*` and its last `**`, to which
-- it may go back
pub record State : Type 0 where
  pub here : Spot
  pub name : Option Spot
  pub path : Option Spot

-- the place that the code keeps as bytes, parts and text
abbrev pub spot : Place → Spot
spot p = record { pieces = pieces p.bytes.now p.parts.now; text = p.text.now }

-- the same for a place to go back to, if there is one
abbrev pub back : Option Place → Option Spot
back None = None
back (Some p) = Some (spot p)

-- the search that the code keeps, with its three places
abbrev pub state : Search → State
state s = record { here = spot s.here; name = back s.name; path = back s.path }

-- there is no match from here
abbrev pub Stuck : Spot → Type 0
Stuck s = IsMatch s.pieces s.text → ⊥

-- a stretch of one byte that a piece stands for
abbrev pub Passes : Piece → ℕ → Type 0
Passes p b = Covers p (b ∷ [])

-- the place with one more byte in the stretch of its `*`
abbrev pub Longer : Option Spot → Spot → Type 0
Longer None r = ⊥
Longer (Some s) r = (b : ℕ) × (s.pieces ≡ r.pieces) × (s.text ≡ b ∷ r.text) × Passes InName b

-- the last `*` can't take one more byte: there is none, the text ends, or a `/` is next
abbrev pub NoLonger : Option Spot → Type 0
NoLonger o = (r : Spot) → Longer o r → ⊥

-- a text after the first `/` of another
abbrev pub IsBehindName : List ℕ → List ℕ → Type 0
IsBehindName text rest = (name : List ℕ) × (text ≡ name ++ (47 ∷ rest)) × All (λ b. b ≢ 47) name

-- the place with the rest of a name, and the `/` after it, added to the stretch of its `**`
abbrev pub Further : Option Spot → Spot → Type 0
Further None r = ⊥
Further (Some s) r = (s.pieces ≡ r.pieces) × IsBehindName s.text r.text

-- the last `**` can't take the rest of a name: there is none, or no `/` is left in its text
abbrev pub NoFurther : Option Spot → Type 0
NoFurther o = (r : Spot) → Further o r → ⊥

-- a byte found
abbrev pub ByByte : State → State → Type 0
ByByte s n = (b : ℕ) × (s.here.pieces ≡ Byte b ∷ n.here.pieces) × (s.here.text ≡ b ∷ n.here.text)
    × (n.name ≡ s.name) × (n.path ≡ s.path)

-- a `*`, which takes nothing at first
abbrev pub ByName : State → State → Type 0
ByName s n = (s.here.pieces ≡ InName ∷ n.here.pieces) × (s.here.text ≡ n.here.text)
    × (n.name ≡ Some n.here) × (n.path ≡ s.path)

-- a `**`, which takes nothing at first, and acts as a `*` within the name
abbrev pub ByPath : State → State → Type 0
ByPath s n = (s.here.pieces ≡ InPath ∷ n.here.pieces) × (s.here.text ≡ n.here.text)
    × (n.name ≡ Some n.here) × (n.path ≡ Some n.here)

-- one piece further
abbrev pub Follows : State → State → Type 0
Follows s n = ByByte s n ⊎ (ByName s n ⊎ ByPath s n)

-- the last `*` takes one more byte or, if it can't, the last `**` takes the rest of its name, and
-- acts as a `*` in the next one
abbrev pub ByLongerName : State → State → Type 0
ByLongerName s n = Longer s.name n.here × (n.name ≡ Some n.here) × (n.path ≡ s.path)

-- the last `*` can take no more, so the last `**` takes the rest of its name with the `/`
abbrev pub ByNextName : State → State → Type 0
ByNextName s n = NoLonger s.name × Further s.path n.here × (n.name ≡ Some n.here)
    × (n.path ≡ Some n.here)

-- neither can take more
abbrev pub Spent : State → Type 0
Spent s = NoLonger s.name × NoFurther s.path

-- a step back, when no piece fits: to the last `*`, or else to the last `**`
abbrev pub Returns : State → State → Type 0
Returns s n = ByLongerName s n ⊎ ByNextName s n

-- a step: one piece further if that is possible, else back
abbrev pub Steps : State → State → Type 0
Steps s n = Follows s n ⊎ (Stuck s.here × Returns s n)

-- a search that has no step
abbrev pub Ends : State → Type 0
Ends s = Stuck s.here × NoLonger s.name × NoFurther s.path

-- the last run of literal bytes is all that is left of the text
abbrev pub IsFound : Place → Type 0
IsFound p = (p.parts.now ≡ []) × (p.text.now ≡ p.bytes.now)

-- a run of literal bytes found
abbrev pub Passed : State → State → Type 0
Passed s n = (run : List ℕ) × (s.here.pieces ≡ literal run ++ n.here.pieces)
    × (s.here.text ≡ run ++ n.here.text) × (n.name ≡ s.name) × (n.path ≡ s.path)

-- a place further on in the text, with no match from a place before it
pub record Skips (s r : Spot) : Type 0 where
  pub count : ℕ
  pub within : count ≤ length s.text
  pub pieces : r.pieces ≡ s.pieces
  pub text : r.text ≡ drop count s.text
  pub none : (k : ℕ) → k < count → IsMatch s.pieces (drop k s.text) → ⊥

-- behind a `*`, further on in the same name
abbrev pub SettlesInName : State → State → Type 0
SettlesInName s n = (k : Skips s.here n.here) × All (λ b. b ≢ 47) (take k.count s.here.text)
    × (s.name ≡ Some s.here) × (n.name ≡ Some n.here) × (n.path ≡ s.path)

-- behind a `**`, further on in the whole text
abbrev pub SettlesInPath : State → State → Type 0
SettlesInPath s n = Skips s.here n.here × (s.name ≡ Some s.here) × (s.path ≡ Some s.here)
    × (n.name ≡ Some n.here) × (n.path ≡ Some n.here)

-- behind a star, on to the first place of the text at which what follows may match
abbrev pub Settles : State → State → Type 0
Settles s n = SettlesInName s n ⊎ SettlesInPath s n

-- past a run and a star
abbrev pub GoesOn : State → State → Type 0
GoesOn s n = (m : State) × Passed s m × ((k : State) × Follows m k × Settles k n)

-- back to a star
abbrev pub GoesBack : State → State → Type 0
GoesBack s n = (k : State) × Returns s k × Settles k n

-- some steps at once
abbrev pub Goes : State → State → Type 0
Goes s n = GoesOn s n ⊎ (Stuck s.here × GoesBack s n)
