-- What the bytes of a connection begin with.
use Rattle.std.specs.Prelude.{◌≡◌, ℕ, ◌+◌, ◌++◌, ◌<◌, ◌≤◌, ◌⊎◌, nat_lt, nat_le, List, length, take}
use Rattle.std.specs.Prelude.{drop, map, codes, if◌then◌else◌}
use Rattle.httparse.specs.Grammar.{RequestHead, HasNoRequest, MayBecomeRequest}
use Rattle.httparse.specs.Spans.{name_and_value, RequestOverflows}
use Rattle.desk_http_head.specs.Fields.{Field, has_field, length_from, unsaid}
use Rattle.desk_http_head.specs.Heads.{BeginsWith, HasNoHead, AreLineEnds}
use Rattle.desk_http_head.specs.Limits.{head_bytes, head_fields, body_bytes, request_bytes}
use Rattle.desk_http_head.specs.declared.fields.BodyLength.{BodyLength}
use Rattle.desk_http_head.specs.declared.fields.BodyLength.TheVariants.{Unsaid, Bytes, Bad}
use Rattle.desk_http_head.specs.declared.framing.Framing.{Framing}
use Rattle.desk_http_head.specs.declared.framing.Framing.TheVariants as framing
use Rattle.desk_http_head.specs.declared.framing.Awaited.{Awaited}
use Rattle.desk_http_head.specs.declared.framing.Awaited.TheVariants.{Start, Head, Body}
use Rattle.desk_http_head.specs.declared.status.Status.{Status}
use Rattle.desk_http_head.specs.declared.status.Status.TheVariants.{BadRequest, ContentTooLarge, NotImplemented}

-- what bytes begin with: part of a request, something that is refused with a status, or a request
-- and the bytes after it
pub data Framed : Type 0 where
  part : Framed
  bad : Status → Framed
  whole : (method target body rest : List ℕ) → Framed

-- the same for the slices that the code returns
abbrev pub framed : Framing → Framed
framed (framing.Part awaited) = part
framed (framing.Bad status) = bad status
framed (framing.Whole method target body rest) = whole method.now target.now body.now rest.now

-- a request with a body of this many bytes is whole once they are there
abbrev pub with_body : List ℕ → List ℕ → ℕ → List ℕ → Framed
with_body method target n after =
    if nat_le n (length after) then whole method target (take n after) (drop n after) else part

-- a request whose head says this of its body; a length over the limit is refused before the body is
-- there
abbrev pub by_length : List ℕ → List ℕ → BodyLength → List ℕ → Framed
by_length method target Bad after = bad BadRequest
by_length method target Unsaid after = with_body method target 0 after
by_length method target (Bytes n) after =
    if nat_lt body_bytes n then bad ContentTooLarge else with_body method target n after

-- a head with these parts and the bytes after it: the tests in their order
abbrev pub judged : List ℕ → List ℕ → List Field → List ℕ → Framed
judged method target fields after =
    if has_field (codes "transfer-encoding") fields then bad NotImplemented
    else by_length method target (length_from unsaid fields) after

-- what bytes begin with, by their head and the bytes after it
abbrev pub after_head : RequestHead → List ℕ → Framed
after_head h after = judged h.method h.target (map name_and_value h.fields) after

-- Bytes without a whole head. They are refused if there are as many as a head may have, or if no
-- head that keeps the limit of fields can begin with them. More is awaited only if there are fewer,
-- and bytes can follow that make a head or a target is still being read.
abbrev pub IsUnread : List ℕ → Framed → Type 0
IsUnread bytes part = (length bytes < head_bytes) × HasNoRequest bytes × MayBecomeRequest bytes
IsUnread bytes (bad status) = (status ≡ BadRequest)
    × ((head_bytes ≤ length bytes) ⊎ RequestOverflows head_fields bytes)
IsUnread bytes (whole method target body rest) = ⊥

-- The reading of the bytes that came so far: that of their head or, if they have none, as above.
abbrev pub IsFraming : List ℕ → Framed → Type 0
IsFraming bytes f =
    ((h : RequestHead) × (after : List ℕ) × BeginsWith bytes h after × (f ≡ after_head h after))
    ⊎ (HasNoHead bytes × IsUnread bytes f)

-- what all the bytes of a connection ask for
pub data Asked : Type 0 where
  refused : Status → Asked
  asked : (method target body : List ℕ) → Asked

-- what a reading asks for if no more bytes come: part of a request is refused, and what follows a
-- request is ignored
abbrev pub closed : Framed → Asked
closed part = refused BadRequest
closed (bad status) = refused status
closed (whole method target body rest) = asked method target body

-- What these bytes ask for if no more follow. It is at most one thing, so nothing is left open
-- here.
abbrev pub IsAsked : List ℕ → Asked → Type 0
IsAsked bytes a =
    ((h : RequestHead) × (after : List ℕ) × BeginsWith bytes h after
    × (a ≡ closed (after_head h after)))
    ⊎ (HasNoHead bytes × (a ≡ refused BadRequest))

-- no request is whole: if there is a head, its body isn't complete
abbrev pub AwaitsMore : List ℕ → Type 0
AwaitsMore bytes = (h : RequestHead) (after : List ℕ) → BeginsWith bytes h after
    → after_head h after ≡ part

-- after a head of this many bytes more of the body is awaited, until there are `count` bytes in all
abbrev pub AwaitsFrom : ℕ → (List ℕ → Framed) → List ℕ → Framing → Type 0
AwaitsFrom head reads after (framing.Part (Body count)) =
    (head + length after < count) × (count ≤ request_bytes)
    × ((later : List ℕ) → head + length later < count → reads later ≡ part)
AwaitsFrom head reads after (framing.Part Head) = ⊥
AwaitsFrom head reads after (framing.Part Start) = ⊥
AwaitsFrom head reads after (framing.Bad status) = Unit {0}
AwaitsFrom head reads after (framing.Whole method target body rest) = Unit {0}

-- what these bytes await: the first byte of a head, or the rest of a head within its limit, or more
-- of the body until there are `count` bytes in all
abbrev pub IsAwaited : List ℕ → Awaited → Type 0
IsAwaited bytes Start = AreLineEnds bytes × (length bytes < head_bytes)
IsAwaited bytes Head = HasNoHead bytes × (length bytes < head_bytes)
IsAwaited bytes (Body count) =
    (length bytes < count) × (count ≤ request_bytes)
    × ((more : List ℕ) → length (bytes ++ more) < count → AwaitsMore (bytes ++ more))

-- this is true of what a reading awaits, if it awaits anything
abbrev pub IfPart : Framing → (Awaited → Type 0) → Type 0
IfPart (framing.Part awaited) P = P awaited
IfPart (framing.Bad status) P = Unit {0}
IfPart (framing.Whole method target body rest) P = Unit {0}
