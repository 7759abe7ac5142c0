-- Whether bytes begin with the head of a request (RFC 9112, section 2.1).
use Rattle.std.specs.Prelude.{◌≡◌, ℕ, ◌≤◌, List, ◌++◌, length, Bool, true, ◌||◌, ◌==◌}
use Rattle.std.specs.List.{list_all}
use Rattle.httparse.specs.Grammar.{RequestHead, ReadsRequest, print_request}
use Rattle.desk_http_head.specs.Limits.{head_bytes, head_fields}

-- the bytes begin with this head, which is within the limits, and these bytes follow it
pub record BeginsWith (bytes : List ℕ) (h : RequestHead) (after : List ℕ) : Type 0 where
  pub reads : ReadsRequest bytes h after
  pub short : length (print_request h) ≤ head_bytes
  pub few : length h.fields ≤ head_fields

-- they begin with this head, whatever follows it
abbrev pub HasHead : List ℕ → RequestHead → Type 0
HasHead bytes h = (after : List ℕ) × BeginsWith bytes h after

-- they begin with no head
abbrev pub HasNoHead : List ℕ → Type 0
HasNoHead bytes = (h : RequestHead) (after : List ℕ) → ¬ (BeginsWith bytes h after)

-- whatever bytes follow, they begin with no head
abbrev pub NeverHasHead : List ℕ → Type 0
NeverHasHead bytes = (more : List ℕ) → HasNoHead (bytes ++ more)

-- a byte of a line end
abbrev pub is_line_byte : ℕ → Bool
is_line_byte b = b == 10 || b == 13

-- the bytes are only line ends, which may come before a head (RFC 9112, section 2.2)
abbrev pub AreLineEnds : List ℕ → Type 0
AreLineEnds bytes = list_all is_line_byte bytes ≡ true
