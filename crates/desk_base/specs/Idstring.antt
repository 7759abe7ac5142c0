-- Idstrings: SPDX 2.3, Annex D.2, `idstring = 1*(ALPHA / DIGIT / "-" / "." )`.
use Rattle.std.specs.Prelude.{ℕ, ◌<◌, ◌==◌, ◌||◌, ◌&&◌, nat_lt, Bool, List, length, IsTrue, All}
use Rattle.std.specs.List.{list_all}
use Rattle.std.specs.Char.{is_ascii_alphanumeric}

-- an ASCII letter or digit, a hyphen or a full stop
abbrev pub is_idstring_byte : ℕ → Bool
is_idstring_byte b = is_ascii_alphanumeric b || b == 45 || b == 46

-- one or more such bytes
abbrev pub IsIdstring : List ℕ → Type 0
IsIdstring text = (0 < length text) × All (λ b. IsTrue (is_idstring_byte b)) text

-- the same as a test
abbrev pub is_idstring : List ℕ → Bool
is_idstring text = nat_lt 0 (length text) && list_all is_idstring_byte text
