-- Paths (RFC 3986, section 3.3) and their parts.
use Rattle.std.specs.Prelude.{ℕ, zero, suc, ◌==◌, List}
use Rattle.std.specs.List.{before_first, after_first}

-- what comes before the first `?` of a target, or all of it
abbrev pub path_of : List ℕ → List ℕ
path_of target = before_first (λ b. b == 63) target

-- what comes before and after the first slash
abbrev pub before_slash : List ℕ → List ℕ
before_slash path = before_first (λ b. b == 47) path

-- nothing if there is no slash
abbrev pub after_slash : List ℕ → List ℕ
after_slash path = after_first (λ b. b == 47) path

-- the part of a path after this many slashes
abbrev pub part_at : ℕ → List ℕ → List ℕ
part_at zero path = before_slash path
part_at (suc slashes) path = part_at slashes (after_slash path)
