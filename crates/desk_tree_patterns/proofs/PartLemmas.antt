-- The parts of a pattern as it is read.
use Rattle.std.proofs.Common.{◌≡◌, ◌∙◌, ℕ, ◌+◌, ◌≤◌, List, [], ◌∷◌, ◌++◌, length, take, drop, sym, subst}
use Rattle.std.proofs.Common.{ap, arith, append_assoc, length-drop, drop_of_length-le}
use Rattle.std.proofs.Math.Seq.{take-length}
use Rattle.std.proofs.lemmas.List.{map-append, take-append-le, drop-append-le}
use Rattle.desk_tree_patterns.specs.declared.glob.Piece.{Piece}
use Rattle.desk_tree_patterns.specs.declared.glob.Piece.TheVariants.{Byte}
use Rattle.desk_tree_patterns.specs.declared.glob.Part.{Part}
use Rattle.desk_tree_patterns.specs.Glob.{Begins, Spells}
use Rattle.desk_tree_patterns.specs.Parts.{literal, pieces, star_piece}

-- how many bytes stand before the last star
abbrev pub placed : List Part → ℕ
placed [] = 0
placed (p ∷ ps) = p.before + placed ps

placed-add : (parts : List Part) (q : Part) → placed (parts ++ q ∷ []) ≡ placed parts + q.before
placed-add [] q = omega arith
placed-add (p ∷ ps) q = let later = placed-add ps q in omega arith

-- a star before which all bytes stand leaves none behind it
pub all_placed : (bytes : List ℕ) (parts now : List Part) (q : Part) → now ≡ parts ++ q ∷ []
    → placed parts + q.before ≡ length bytes → placed now + 0 ≡ length bytes
all_placed bytes parts now q is all =
    let same = ap placed is ∙ placed-add parts q in
    omega arith

-- one more byte at the end is one more piece
pub byte_added : (bytes : List ℕ) (parts : List Part) (b : ℕ) → placed parts ≤ length bytes
    → pieces (bytes ++ b ∷ []) parts ≡ pieces bytes parts ++ Byte b ∷ []
byte_added bytes [] b le = map-append Byte bytes (b ∷ [])
byte_added bytes (p ∷ ps) b le =
    let n = p.before in
    let len = length-drop n bytes in
    let front : take n (bytes ++ b ∷ []) ≡ take n bytes = take-append-le n bytes (b ∷ []) (omega arith)
    in
    let back : drop n (bytes ++ b ∷ []) ≡ drop n bytes ++ b ∷ [] =
    drop-append-le n bytes (b ∷ []) (omega arith) in
    let later = byte_added (drop n bytes) ps b (omega arith) in
    ap (λ l. literal l ++ (star_piece p.star ∷ pieces (drop n (bytes ++ b ∷ [])) ps)) front
    ∙ ap (λ l. literal (take n bytes) ++ (star_piece p.star ∷ pieces l ps)) back
    ∙ ap (λ l. literal (take n bytes) ++ (star_piece p.star ∷ l)) later
    ∙ sym (append_assoc (literal (take n bytes)) (star_piece p.star ∷ pieces (drop n bytes) ps)
    (Byte b ∷ []))

-- and so is one more star, once all bytes before it are placed
pub star_added : (bytes : List ℕ) (parts : List Part) (q : Part)
    → placed parts + q.before ≡ length bytes
    → pieces bytes (parts ++ q ∷ []) ≡ pieces bytes parts ++ star_piece q.star ∷ []
star_added bytes [] q is =
    let whole : q.before ≡ length bytes = omega arith in
    let all : take q.before bytes ≡ bytes = ap (λ n. take n bytes) whole ∙ take-length bytes in
    let none : drop q.before bytes ≡ [] = drop_of_length-le bytes (omega arith) in
    ap (λ l. literal l ++ (star_piece q.star ∷ literal (drop q.before bytes))) all
    ∙ ap (λ l. literal bytes ++ (star_piece q.star ∷ literal l)) none
star_added bytes (p ∷ ps) q is =
    let n = p.before in
    let len = length-drop n bytes in
    let later = star_added (drop n bytes) ps q (omega arith) in
    ap (λ l. literal (take n bytes) ++ (star_piece p.star ∷ l)) later
    ∙ sym (append_assoc (literal (take n bytes)) (star_piece p.star ∷ pieces (drop n bytes) ps)
    (star_piece q.star ∷ []))

-- whatever pieces the rest of a pattern is, they complete these
abbrev pub Completes : List ℕ → List Piece → List ℕ → Type 0
Completes pattern read rest = (ps : List Piece) → Spells rest ps → Spells pattern (read ++ ps)

pub read_more : (pattern rest more : List ℕ) (read now : List Piece) (x : Piece)
    → now ≡ read ++ x ∷ [] → Begins rest x more → Completes pattern read rest
    → Completes pattern now more
read_more pattern rest more read now x is begins before ps spells =
    subst (Spells pattern) (sym (ap (λ l. l ++ ps) is ∙ append_assoc read (x ∷ []) ps))
    (before (x ∷ ps) (more, begins, spells))
