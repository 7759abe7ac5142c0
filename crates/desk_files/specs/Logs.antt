-- The log beside the file of a desk (SQLite's file format, 4).
use Rattle.std.specs.Prelude.{ℕ, ◌+◌, Bool, nat_le}

-- a log holds a change if it is as long as its header, of 32 bytes, and the header of a page, of 24
abbrev pub holds_change : ℕ → Bool
holds_change length = nat_le (32 + 24) length
