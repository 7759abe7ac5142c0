-- Connections are lines of a script.
use Rattle.std.proofs.Common.{◌≡◌, ℕ, Bool, List, [], ◌∷◌, refl, sym, subst, Option, Some, None}
use Rattle.desk_access.specs.Seen.{Seen}
use Rattle.desk_http.specs.Requests.{request_for}
use Rattle.desk_http.specs.declared.asking.Reply.{Reply}
use Rattle.desk_http.specs.declared.asking.Reply.TheVariants.{Became, Bad, NoRoute, BadCommand, NotText, Memory, Elsewhere}
use Rattle.desk_http.specs.declared.asking.Request.{Request}
use Rattle.desk_http.specs.declared.asking.Request.TheVariants as request
use Rattle.desk_http.specs.Connections.{Connection, line_of, line_reply, Replied, replied, with_reply, IsLineOf, AreLines}
use Rattle.desk_http.specs.Connections.{IsConnected, AreAnswered, AreServed}
use Rattle.desk_http.specs.Replies.{Told}
use Rattle.desk_http.specs.Serving.{Answers, IsReply, is_get}
use Rattle.desk_json.specs.declared.request.Request as json_request
use Rattle.desk_json.specs.declared.request.Request.TheVariants as line
use Rattle.desk_model.specs.Readings.{Readings}
use Rattle.desk_model.specs.Tables.{Tables}
use Rattle.desk_model.specs.declared.command.StoreFault.{StoreFault}
use Rattle.desk_script.specs.Replies.{Replies, AreReplied}
use Rattle.desk_script.proofs.Chains.{IsRun-of, HasRun-of}
use Rattle.desk_script.proofs.OneLine.{no_request}
use Rattle.desk_script.specs.declared.answer.Reply as script_reply
use Rattle.desk_script.specs.declared.answer.Reply.TheVariants as script

module _ (is_right : Readings → Type 0) (tells : StoreFault → Type 0) {Left Desk : Type 0}
    (stands : Left → Tables → Type 0) (seen : Desk → Seen Left) where
  unasked : (before after : Desk) → after ≡ before
      → Replies is_right tells stands (seen before) line.BadCommand script.NoRequest (seen after)
  unasked before after same = subst (λ (d : Desk). Replies is_right tells stands (seen before)
      line.BadCommand script.NoRequest (seen d)) (sym same)
      (no_request is_right tells stands (seen before))

  -- a request of a connection gets the reply of a line
  as_line : (before after : Desk) (get : Bool) (r : Reply) (q : Request)
      → Answers is_right tells stands seen get before r q after
      → Replies is_right tells stands (seen before) (line_of q) (line_reply r) (seen after)
  as_line before after get (Became o s short) (request.Act c) a = a.2
  as_line before after get (Became o s short) (request.Ask c shape) a = a.2
  as_line before after get (Became o s short) request.NoRoute a = absurd a
  as_line before after get (Became o s short) request.BadCommand a = absurd a
  as_line before after get (Became o s short) request.NotText a = absurd a
  as_line before after get NoRoute request.NoRoute a = unasked before after a
  as_line before after get NoRoute (request.Act c) a = absurd a
  as_line before after get NoRoute (request.Ask c shape) a = absurd a
  as_line before after get NoRoute request.BadCommand a = absurd a
  as_line before after get NoRoute request.NotText a = absurd a
  as_line before after get BadCommand request.BadCommand a = unasked before after a
  as_line before after get BadCommand (request.Act c) a = absurd a
  as_line before after get BadCommand (request.Ask c shape) a = absurd a
  as_line before after get BadCommand request.NoRoute a = absurd a
  as_line before after get BadCommand request.NotText a = absurd a
  as_line before after get NotText request.NotText a = unasked before after a
  as_line before after get NotText (request.Act c) a = absurd a
  as_line before after get NotText (request.Ask c shape) a = absurd a
  as_line before after get NotText request.NoRoute a = absurd a
  as_line before after get NotText request.BadCommand a = absurd a
  as_line before after get Memory q a = absurd a
  as_line before after get (Bad status) q a = absurd a
  as_line before after get Elsewhere q a = absurd a

  one : (port : Option ℕ) (before after : Desk) (bytes : List ℕ) (r : Reply)
      → IsReply is_right tells stands seen port before bytes r after
      → (q : json_request.Request) × IsLineOf port bytes r q
      × Replies is_right tells stands (seen before) q (line_reply r) (seen after)
  one port before after bytes Memory a = (line.BadCommand, refl, unasked before after a)
  one port before after bytes Elsewhere a =
      (line.BadCommand, (a.0, refl), unasked before after a.1)
  one port before after bytes (Bad status) a =
      (line.BadCommand, (a.1, refl), unasked before after a.2)
  one port before after bytes (Became o s short) (free, m, t, b, x, a) = (
    line_of (request_for m t b),
    (m, t, b, x, refl),
    as_line before after (is_get m) (Became o s short) (request_for m t b) a,
  )
  one port before after bytes NoRoute (free, m, t, b, x, a) = (
    line_of (request_for m t b),
    (m, t, b, x, refl),
    as_line before after (is_get m) NoRoute (request_for m t b) a,
  )
  one port before after bytes BadCommand (free, m, t, b, x, a) = (
    line_of (request_for m t b),
    (m, t, b, x, refl),
    as_line before after (is_get m) BadCommand (request_for m t b) a,
  )
  one port before after bytes NotText (free, m, t, b, x, a) = (
    line_of (request_for m t b),
    (m, t, b, x, refl),
    as_line before after (is_get m) NotText (request_for m t b) a,
  )

  -- a connection before others that are lines
  line_before : (port : Option ℕ) (bytes : List ℕ) (told : Option Told) (cs : List Replied)
      (before between after : Desk)
      → IsConnected is_right tells stands seen port bytes told before between
      → (qs : List json_request.Request) (ps : List script_reply.Reply) → AreLines cs qs ps
      → AreReplied is_right tells stands seen between qs ps after
      → (rs : List json_request.Request) × (ss : List script_reply.Reply)
      × AreLines (with_reply port bytes told cs) rs ss
      × AreReplied is_right tells stands seen before rs ss after
  line_before port bytes None cs before between after same qs ps lines more = (
    qs,
    ps,
    lines,
    subst (λ (d : Desk). AreReplied is_right tells stands seen d qs ps after) same more,
  )
  line_before port bytes (Some told) cs before between after first qs ps lines more =
      let line = one port before between bytes first.reply first.is_reply in (
        line.0 ∷ qs,
        line_reply first.reply ∷ ps,
        (
          record {
            reply = first.reply;
            is_told = first.is_told;
            is_line = line.1;
            is_reply = refl;
          },
          lines,
        ),
        (between, line.2, more),
      )

  -- connections as lines
  lines_of : (before : Desk) (cs : List Connection) (after : Desk)
      → AreAnswered is_right tells stands seen before cs after
      → (qs : List json_request.Request) × (ps : List script_reply.Reply)
      × AreLines (replied cs) qs ps
      × AreReplied is_right tells stands seen before qs ps after
  lines_of before [] after same = ([], [], tt, same)
  lines_of before (c ∷ cs) after (between, first, rest) =
      let more = lines_of between cs after rest in
      line_before c.port c.bytes c.told (replied cs) before between after first more.0 more.1
      more.2 more.3

  pub AreServed-of : (before : Desk) (cs : List Connection) (after : Desk)
      → AreAnswered is_right tells stands seen before cs after
      → AreServed is_right tells stands seen before cs after
  AreServed-of before cs after answered =
      let lines = lines_of before cs after answered in
      record {
        requests = lines.0;
        replies = lines.1;
        lines = lines.2;
        replied = lines.3;
        run = IsRun-of is_right tells stands seen before after lines.0 lines.1 lines.3;
        fronts = HasRun-of is_right tells stands seen before after lines.0 lines.1 lines.3;
      }
