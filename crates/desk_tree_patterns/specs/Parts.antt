-- A pattern as it is kept: its literal bytes one after another, and its stars in order, each with
-- the number of bytes between it and the star before it.
use Rattle.std.specs.Prelude.{ℕ, List, [], ◌∷◌, ◌++◌, map, take, drop}
use Rattle.desk_tree_patterns.specs.declared.glob.Piece.{Piece}
use Rattle.desk_tree_patterns.specs.declared.glob.Piece.TheVariants.{Byte, InName, InPath}
use Rattle.desk_tree_patterns.specs.declared.glob.Star.{Star}
use Rattle.desk_tree_patterns.specs.declared.glob.Star.TheVariants.{Single, Double}
use Rattle.desk_tree_patterns.specs.declared.glob.Part.{Part}

-- the piece that a star is: `*` covers bytes of one name, `**` those of any path
abbrev pub star_piece : Star → Piece
star_piece Single = InName
star_piece Double = InPath

-- bytes that stand for themselves
abbrev pub literal : List ℕ → List Piece
literal bytes = map Byte bytes

-- the pieces of a pattern
abbrev pub pieces : List ℕ → List Part → List Piece
pieces bytes [] = literal bytes
pieces bytes (p ∷ ps) =
    literal (take p.before bytes) ++ (star_piece p.star ∷ pieces (drop p.before bytes) ps)

-- the literal bytes before the first star
abbrev pub first_run : List ℕ → List Part → List ℕ
first_run bytes [] = bytes
first_run bytes (p ∷ ps) = take p.before bytes

-- those after it
abbrev pub later_bytes : List ℕ → List Part → List ℕ
later_bytes bytes [] = []
later_bytes bytes (p ∷ ps) = drop p.before bytes
