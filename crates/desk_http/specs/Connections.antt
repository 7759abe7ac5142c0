-- Connections that are served one after another.
use Rattle.std.specs.Prelude.{◌≡◌, ℕ, Option, Some, None, List, [], ◌∷◌}
use Rattle.desk_access.specs.Seen.{Seen}
use Rattle.desk_http_head.specs.Framings.{refused, asked, IsAsked}
use Rattle.desk_http.specs.Replies.{Told, IsTold}
use Rattle.desk_http.specs.Requests.{request_for}
use Rattle.desk_http.specs.declared.asking.Reply.{Reply}
use Rattle.desk_http.specs.declared.asking.Reply.TheVariants as reply
use Rattle.desk_http.specs.declared.asking.Request.{Request}
use Rattle.desk_http.specs.declared.asking.Request.TheVariants.{Act, Ask}
use Rattle.desk_http.specs.Serving.{IsBarred, IsAnswered}
use Rattle.desk_json.specs.declared.request.Request as json_request
use Rattle.desk_json.specs.declared.request.Request.TheVariants as line
use Rattle.desk_model.specs.Readings.{Readings}
use Rattle.desk_model.specs.Tables.{Tables}
use Rattle.desk_model.specs.declared.command.StoreFault.{StoreFault}
use Rattle.desk_script.specs.Replies.{AreReplied, IsRun}
use Rattle.desk_script.specs.Script.{HasRun}
use Rattle.desk_script.specs.declared.answer.Reply as script_reply
use Rattle.desk_script.specs.declared.answer.Reply.TheVariants as script

-- the port of a connection, if it counts, its bytes, and the reply that they got, which may have
-- been cut short: none if no byte came, or the bytes couldn't be read to the end of a request
pub record Connection : Type 0 where
  pub port : Option ℕ
  pub bytes : List ℕ
  pub told : Option Told

-- those that got a reply
pub record Replied : Type 0 where
  pub port : Option ℕ
  pub bytes : List ℕ
  pub told : Told

-- a connection before others, if it got a reply
abbrev pub with_reply : Option ℕ → List ℕ → Option Told → List Replied → List Replied
with_reply port bytes None more = more
with_reply port bytes (Some told) more = record { port = port; bytes = bytes; told = told } ∷ more

-- the connections that got one, in their order
abbrev pub replied : List Connection → List Replied
replied [] = []
replied (c ∷ cs) = with_reply c.port c.bytes c.told (replied cs)

-- a request and a reply as those of a line; what the desk isn't asked counts as a line that is no
-- request
abbrev pub line_of : Request → json_request.Request
line_of (Act c) = line.Act c
line_of (Ask q shape) = line.Ask q
line_of _ = line.BadCommand

-- the reply of the desk if it was asked, otherwise that to a line that is no request
abbrev pub line_reply : Reply → script_reply.Reply
line_reply (reply.Became o shape short) = script.Became o
line_reply _ = script.NoRequest

-- the request of these bytes as that of a line, which is no request if they are barred or refused,
-- or no memory was left to read them
abbrev pub IsLineOf : Option ℕ → List ℕ → Reply → json_request.Request → Type 0
IsLineOf port bytes reply.Memory q = q ≡ line.BadCommand
IsLineOf port bytes reply.Elsewhere q = IsBarred port bytes × (q ≡ line.BadCommand)
IsLineOf port bytes (reply.Bad status) q = IsAsked bytes (refused status) × (q ≡ line.BadCommand)
IsLineOf port bytes r q =
    (method : List ℕ) × (target : List ℕ) × (body : List ℕ)
    × IsAsked bytes (asked method target body) × (q ≡ line_of (request_for method target body))

-- the line of a connection: its request, and the reply that it got
pub record IsLine (c : Replied) (q : json_request.Request)
    (p : script_reply.Reply) : Type 0 where
  pub reply : Reply
  pub is_told : IsTold reply c.told
  pub is_line : IsLineOf c.port c.bytes reply q
  pub is_reply : p ≡ line_reply reply

-- each of these connections is a line with this request and this reply
abbrev pub AreLines : List Replied → List json_request.Request → List script_reply.Reply → Type 0
AreLines [] [] [] = Unit {0}
AreLines (c ∷ cs) (q ∷ qs) (p ∷ ps) = IsLine c q p × AreLines cs qs ps
AreLines _ _ _ = ⊥

module _ (is_right : Readings → Type 0) (tells : StoreFault → Type 0) {Left Desk : Type 0}
    (stands : Left → Tables → Type 0) (seen : Desk → Seen Left) where
  -- a connection gets its reply, or none and leaves the desk as it is
  abbrev pub IsConnected : Option ℕ → List ℕ → Option Told → Desk → Desk → Type 0
  IsConnected port bytes None before after = after ≡ before
  IsConnected port bytes (Some told) before after =
      IsAnswered is_right tells stands seen port before bytes told after

  -- connections are answered one after another, each by the desk as the ones before it left it
  abbrev pub AreAnswered : Desk → List Connection → Desk → Type 0
  AreAnswered before [] after = before ≡ after
  AreAnswered before (c ∷ cs) after =
      (between : Desk) × IsConnected c.port c.bytes c.told before between
      × AreAnswered between cs after

  -- connections get the replies of the lines of a script, whose commands are a run of the desk, up to
  -- each line and to the end
  pub record AreServed (before : Desk) (cs : List Connection) (after : Desk) : Type 0 where
    pub requests : List json_request.Request
    pub replies : List script_reply.Reply
    pub lines : AreLines (replied cs) requests replies
    pub replied : AreReplied is_right tells stands seen before requests replies after
    pub run : IsRun is_right stands (seen before) requests replies (seen after)
    pub fronts : (n : ℕ) → HasRun is_right tells stands seen n requests replies before after
