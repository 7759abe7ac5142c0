-- The limits of a connection, as the definitions use them.
use Rattle.std.specs.Prelude.{ℕ}

-- how many times at most a reader is asked for bytes
abbrev pub reads : ℕ
reads = 1048576

-- how many bytes at most it is asked for each time
abbrev pub piece_bytes : ℕ
piece_bytes = 16384
