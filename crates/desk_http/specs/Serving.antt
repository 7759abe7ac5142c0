-- The reply to a connection.
use Rattle.std.specs.Prelude.{◌≡◌, ℕ, Bool, ◌<◌, ◌≤◌, List, length, codes, Option, Some, None}
use Rattle.std.specs.Str.{bytes_eq}
use Rattle.std.specs.Io.KnownBytes.{Appends, Consumes, Keeps}
use Rattle.desk_http_head.specs.Framings.{Asked, refused, asked, IsAsked}
use Rattle.desk_http.specs.Limits as most
use Rattle.desk_http_head.specs.Origins.{IsFromElsewhere}
use Rattle.desk_script.specs.Script.{AreLeft}
use Rattle.desk_script.specs.Losses.{AppendsFront}
use Rattle.desk_http.specs.declared.receiving.ServeFault.{ServeFault}
use Rattle.desk_http.specs.declared.receiving.ServeFault.TheVariants as fault
use Rattle.desk_http.specs.Replies.{Told, IsTold, reply_bytes}
use Rattle.desk_http.specs.Requests.{request_for}
use Rattle.desk_http.specs.declared.asking.Reply.{Reply}
use Rattle.desk_http.specs.declared.asking.Reply.TheVariants as reply
use Rattle.desk_http.specs.declared.answering.Wanted.{Wanted}
use Rattle.desk_http.specs.declared.answering.Wanted.TheVariants as wanted
use Rattle.desk_http.specs.declared.asking.Request.{Request}
use Rattle.desk_http.specs.declared.asking.Request.TheVariants.{Act, Ask, NoRoute, BadCommand, NotText}
use Rattle.desk_http.specs.declared.asking.Shape.TheVariants.{Json}
use Rattle.desk_http.specs.declared.serving.Served.{Served}
use Rattle.desk_http.specs.declared.serving.Served.TheVariants.{Replied, Nothing}
use Rattle.desk_access.specs.Seen.{Seen}
use Rattle.desk_json.specs.declared.request.Request.TheVariants as line
use Rattle.desk_model.specs.Readings.{Readings}
use Rattle.desk_model.specs.Tables.{Tables}
use Rattle.desk_model.specs.declared.command.StoreFault.{StoreFault}
use Rattle.desk_script.specs.Replies.{Replies}
use Rattle.desk_script.specs.declared.answer.Reply.TheVariants as script

-- the method is GET (RFC 9110, section 9.3.1), in capitals: methods compare with case
abbrev pub is_get : List ℕ → Bool
is_get method = bytes_eq method (codes "GET")

-- what is wanted is what bytes ask for, unless no memory was left to find that out
abbrev pub Wants : Wanted → Asked → Type 0
Wants (wanted.Request request get) (asked method target body) = (request
    ≡ request_for method target body) × (get ≡ is_get method)
Wants (wanted.Bad status) (refused given) = status ≡ given
Wants wanted.Memory asks = Unit {0}
Wants _ _ = ⊥

-- bytes that are barred from a desk at a port: a browser sent them for a page of elsewhere
abbrev pub IsBarred : Option ℕ → List ℕ → Type 0
IsBarred None bytes = ⊥
IsBarred (Some port) bytes = IsFromElsewhere port bytes

module _ (is_right : Readings → Type 0) (tells : StoreFault → Type 0) {Left Desk : Type 0}
    (stands : Left → Tables → Type 0) (seen : Desk → Seen Left) where
  -- A request gets this reply, and leads from one desk to the other: a command or a query does so
  -- as a line of a script, and anything else leaves the desk as it is. An answer is written in the
  -- shape that is asked for, and that of a command in JSON.
  abbrev pub Answers : Bool → Desk → Reply → Request → Desk → Type 0
  Answers get before (reply.Became o given short) (Act c) after =
      (given ≡ Json) × (short ≡ get)
      × Replies is_right tells stands (seen before) (line.Act c) (script.Became o) (seen after)
  Answers get before (reply.Became o given short) (Ask q shape) after =
      (given ≡ shape) × (short ≡ get)
      × Replies is_right tells stands (seen before) (line.Ask q) (script.Became o) (seen after)
  Answers get before reply.NoRoute NoRoute after = after ≡ before
  Answers get before reply.BadCommand BadCommand after = after ≡ before
  Answers get before reply.NotText NotText after = after ≡ before
  Answers get before _ _ after = ⊥

  -- The reply to these bytes, and the desk after it. If no memory was left before the request was
  -- known, it isn't applied; nor is one that is barred from a desk at this port, if there is one.
  abbrev pub IsReply : Option ℕ → Desk → List ℕ → Reply → Desk → Type 0
  IsReply port before bytes reply.Memory after = after ≡ before
  IsReply port before bytes reply.Elsewhere after = IsBarred port bytes × (after ≡ before)
  IsReply port before bytes (reply.Bad status) after =
      (¬ (IsBarred port bytes)) × IsAsked bytes (refused status) × (after ≡ before)
  IsReply port before bytes r after =
      (¬ (IsBarred port bytes))
      × (method : List ℕ) × (target : List ℕ) × (body : List ℕ)
      × IsAsked bytes (asked method target body)
      × Answers (is_get method) before r (request_for method target body) after

  -- the reply that the bytes of a connection get
  pub record IsAnswered (port : Option ℕ) (before : Desk) (bytes : List ℕ) (told : Told)
      (after : Desk) : Type 0 where
    pub some : 0 < length bytes
    pub reply : Reply
    pub is_reply : IsReply port before bytes reply after
    pub is_told : IsTold reply told

  -- a connection that was served: its reply was written, with this status, or nothing if no byte
  -- came
  abbrev pub IsServed : Option ℕ → Desk → List ℕ → Desk → Option (List ℕ) → Option (List ℕ)
      → Served → Type 0
  IsServed port before bytes after old new (Replied status) =
      (told : Told) × IsAnswered port before bytes told after × (status ≡ told.0)
      × Appends old new (reply_bytes told)
  IsServed port before bytes after old new Nothing = (length bytes ≡ 0) × (after ≡ before)
      × Keeps old new

  -- A connection that wasn't. After a fault of the reader nothing was written, and the desk is as
  -- it was; a reader that was asked too often gave at least one byte each time. After a fault of
  -- the writer a prefix of the reply was written, and what was done stays done.
  abbrev pub IsStopped : Option ℕ → Option (List ℕ) → Option (List ℕ) → Desk → Desk
      → Option (List ℕ) → Option (List ℕ) → ServeFault → Type 0
  IsStopped port from to before after old new fault.Write =
      (bytes : List ℕ) × (told : Told) × AreLeft from bytes
      × IsAnswered port before bytes told after × AppendsFront old new (reply_bytes told)
  IsStopped port from to before after old new fault.Read = (after ≡ before) × Keeps old new
  IsStopped port from to before after old new fault.Turns =
      (after ≡ before) × Keeps old new
      × ((bytes : List ℕ) × Consumes from to bytes × (most.reads ≤ length bytes))
