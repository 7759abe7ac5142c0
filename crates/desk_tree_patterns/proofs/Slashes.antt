-- A path that a pattern without `**` matches has as many slashes as the pattern.
use Rattle.std.proofs.Common.{◌≡◌, ◌≢◌, ◌∙◌, inl, inr, ℕ, ◌+◌, List, [], ◌∷◌, ◌++◌, sym, ap, arith}
use Rattle.std.proofs.Common.{refl, cond}
use Rattle.std.specs.Prelude.{◌==◌, All}
use Rattle.std.specs.List.{count_by}
use Rattle.std.proofs.lemmas.Bool.{ne_eqb}
use Rattle.std.proofs.lemmas.List.Elements.{All-head, All-tail}
use Rattle.std.proofs.lemmas.List.Sums.{sum_by-append, sum_by-cons}
use Rattle.desk_tree_patterns.specs.declared.glob.Piece.{Piece}
use Rattle.desk_tree_patterns.specs.declared.glob.Piece.TheVariants.{Byte, InName, InPath}
use Rattle.desk_tree_patterns.specs.Glob.{Begins, Covers, IsMatch, Spells}

abbrev one : ℕ → ℕ
one b = cond (b == 47) 1 0

abbrev slashes : List ℕ → ℕ
slashes bytes = count_by (λ b. b == 47) bytes

more : (b : ℕ) (bs : List ℕ) → slashes (b ∷ bs) ≡ one b + slashes bs
more b bs = sum_by-cons one b bs

none : (bs : List ℕ) → All (λ b. b ≢ 47) bs → slashes bs ≡ 0
none [] clear = refl
none (b ∷ bs) clear =
    let here : one b ≡ 0 = ap (λ t. cond t 1 0) (ne_eqb b 47 (All-head (λ c. c ≢ 47) b bs clear)) in
    let later : slashes bs ≡ 0 = none bs (All-tail (λ c. c ≢ 47) b bs clear) in
    omega (arith, more b bs)

-- a piece that isn't `**` covers as many as it has
by_piece : (pattern : List ℕ) (p : Piece) (rest stretch : List ℕ) → p ≢ InPath
    → Begins pattern p rest → Covers p stretch → slashes pattern ≡ slashes stretch + slashes rest
by_piece pattern (Byte b) rest stretch other (inl escaped) covers =
    let whole : slashes pattern ≡ slashes (92 ∷ b ∷ rest) = ap slashes escaped in
    let part : slashes stretch ≡ slashes (b ∷ []) = ap slashes covers in
    omega (arith, more 92 (b ∷ rest), more b rest, more b [])
by_piece pattern (Byte b) rest stretch other (inr plain) covers =
    let whole : slashes pattern ≡ slashes (b ∷ rest) = ap slashes plain.0 in
    let part : slashes stretch ≡ slashes (b ∷ []) = ap slashes covers in
    omega (arith, more b rest, more b [])
by_piece pattern InName rest stretch other begins covers =
    let whole : slashes pattern ≡ slashes (42 ∷ rest) = ap slashes begins.0 in
    let part : slashes stretch ≡ 0 = none stretch covers in
    omega (arith, more 42 rest)
by_piece pattern InPath rest stretch other begins covers = absurd (other refl)

pub as_many : (pattern path : List ℕ) (pieces : List Piece) → Spells pattern pieces
    → All (λ p. p ≢ InPath) pieces → IsMatch pieces path → slashes path ≡ slashes pattern
as_many pattern path [] spells single match = ap slashes match ∙ sym (ap slashes spells)
as_many pattern path (p ∷ ps) spells single match =
    let here = by_piece pattern p spells.0 match.0 (All-head (λ q. q ≢ InPath) p ps single)
    spells.1 match.3 in
    let later = as_many spells.0 match.1 ps spells.2 (All-tail (λ q. q ≢ InPath) p ps single)
    match.4 in
    let whole : slashes path ≡ slashes (match.0 ++ match.1) = ap slashes match.2 in
    omega (arith, sum_by-append one match.0 match.1)
