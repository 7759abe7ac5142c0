-- Bytes of texts.
use Rattle.std.specs.Prelude.{ℕ, ◌==◌, ◌&&◌, ◌||◌, nat_lt, not, Bool}

-- a space or a tab
abbrev pub is_blank : ℕ → Bool
is_blank b = b == 32 || b == 9

-- no control byte
abbrev pub is_shown : ℕ → Bool
is_shown byte = not (nat_lt byte 32) && not (byte == 127)
