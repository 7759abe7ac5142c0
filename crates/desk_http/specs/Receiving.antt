-- What is read from a connection, and when.
use Rattle.std.specs.Prelude.{◌≡◌, ◌≢◌, ℕ, ◌<◌, ◌≤◌, List, All, ◌++◌, length, Option}
use Rattle.std.specs.Io.KnownBytes.{Consumes}
use Rattle.httparse.specs.Grammar.{RequestHead}
use Rattle.desk_http_head.specs.Framings.{Framed, IsFraming, closed, IsAsked, AwaitsMore}
use Rattle.desk_http_head.specs.Heads.{AreLineEnds, HasHead}
use Rattle.desk_http.specs.Limits as most
use Rattle.desk_http_head.specs.Limits.{head_bytes, request_bytes}
use Rattle.desk_http_head.specs.declared.framing.Awaited.{Awaited}
use Rattle.desk_http_head.specs.declared.framing.Awaited.TheVariants.{Start, Head, Body}
use Rattle.desk_http.specs.declared.receiving.Received.{Received}
use Rattle.desk_http.specs.declared.receiving.Received.TheVariants.{Nothing, Memory, Bytes}
use Rattle.desk_http.specs.declared.receiving.ServeFault.{ServeFault}
use Rattle.desk_http.specs.declared.receiving.ServeFault.TheVariants.{Read, Write, Turns}

-- these bytes have the head of those that begin with them, or neither has one
abbrev pub HasHeadOf : List ℕ → List ℕ → Type 0
HasHeadOf front bytes = (h : RequestHead) → (HasHead front h → HasHead bytes h)
    × (HasHead bytes h → HasHead front h)

-- each reading of these bytes says what any bytes that begin with them ask for, and they have the
-- same head
abbrev pub IsSettled : List ℕ → Type 0
IsSettled front = (more : List ℕ)
    → ((f : Framed) → IsFraming front f → IsAsked (front ++ more) (closed f))
    × HasHeadOf front (front ++ more)

-- what was received of these bytes: each reading of what was kept says what they ask for, and it
-- has their head
abbrev pub IsReceived : List ℕ → Received → Type 0
IsReceived bytes Nothing = length bytes ≡ 0
IsReceived bytes Memory = 0 < length bytes
IsReceived bytes (Bytes kept) = (0 < length bytes)
    × ((f : Framed) → IsFraming kept.items f → IsAsked bytes (closed f))
    × HasHeadOf kept.items bytes

-- A reader isn't read past the piece that completes the request: without the last piece no request
-- was whole, and there were fewer bytes than a request may have.
pub record IsPrompt (old new : Option (List ℕ)) : Type 0 where
  pub before : List ℕ
  pub piece : List ℕ
  pub read : Consumes old new (before ++ piece)
  pub awaits : AwaitsMore before
  pub few : length before < request_bytes
  pub short : length piece ≤ most.piece_bytes

-- a fault of a reader that gave this many bytes: if it was asked too often, it gave at least one
-- byte each time
abbrev pub IsOfReader : ServeFault → ℕ → Type 0
IsOfReader Read count = Unit {0}
IsOfReader Turns count = most.reads ≤ count
IsOfReader Write count = ⊥

-- with this piece there are this many bytes, which can't complete what was awaited: a head ends
-- with LF
abbrev pub IsUndue : List ℕ → ℕ → Awaited → Type 0
IsUndue came count Start = (count < head_bytes) × AreLineEnds came
IsUndue came count Head = (count < head_bytes) × All (λ b. b ≢ 10) came
IsUndue came count (Body wanted) = count < wanted
