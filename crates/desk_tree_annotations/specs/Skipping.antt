-- What is skipped when tags are looked for: whole lines on which neither a tag nor an ignored
-- stretch begins.
use Rattle.std.specs.Prelude.{◌⊎◌, ◌≡◌, ℕ, ◌+◌, ◌≤◌, ◌==◌, List, [], ◌∷◌, ◌++◌, length, count_by}
use Rattle.desk_tree_annotations.specs.Runs.{Lacks, start}

-- a needle begins nowhere in the first `number` bytes of a text
abbrev pub IsClear : List ℕ → ℕ → List ℕ → Type 0
IsClear needle number text = (xs ys : List ℕ) → text ≡ xs ++ (needle ++ ys) → number ≤ length xs

-- whole lines: nothing, or bytes with a line feed at their end
abbrev pub AreWhole : List ℕ → Type 0
AreWhole text = (text ≡ []) ⊎ ((front : List ℕ) × (text ≡ front ++ (10 ∷ [])))

-- what is left after whole lines of at most this many bytes, on which no ignored stretch begins,
-- and the number of its first line
pub record Skips (most line : ℕ) (bytes : List ℕ) (after : ℕ) (rest : List ℕ) : Type 0 where
  pub lines : List ℕ
  pub cut : bytes ≡ lines ++ rest
  pub within : length lines ≤ most
  pub whole : AreWhole lines
  pub quiet : Lacks start lines
  pub next : after ≡ line + count_by (λ b. b == 10) lines
