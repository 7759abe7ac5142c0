-- The answer to what bytes want is the reply to these bytes.
use Rattle.std.proofs.Common.{◌≡◌, ℕ, Bool, List, None, subst, sym}
use Rattle.desk_access.specs.Seen.{Seen}
use Rattle.desk_http_head.specs.Framings.{Asked, refused, asked, IsAsked}
use Rattle.desk_http_head.specs.declared.status.Status.{Status}
use Rattle.desk_http.specs.Requests.{request_for}
use Rattle.desk_http.specs.declared.asking.Reply.{Reply}
use Rattle.desk_http.specs.declared.asking.Reply.TheVariants.{Became, Bad, NoRoute, BadCommand, NotText, Memory, Elsewhere}
use Rattle.desk_http.specs.declared.asking.Request.{Request}
use Rattle.desk_http.specs.Serving.{Wants, Answers, IsReply, is_get}
use Rattle.desk_http.specs.declared.answering.Wanted.TheVariants as wanted
use Rattle.desk_model.specs.Readings.{Readings}
use Rattle.desk_model.specs.Tables.{Tables}
use Rattle.desk_model.specs.declared.command.StoreFault.{StoreFault}

module _ (is_right : Readings → Type 0) (tells : StoreFault → Type 0) {Left Desk : Type 0}
    (stands : Left → Tables → Type 0) (seen : Desk → Seen Left) where
  moved : (before after : Desk) (r : Reply) (request : Request) (get : Bool)
      (method target body : List ℕ) → request ≡ request_for method target body → get ≡ is_get method
      → Answers is_right tells stands seen get before r request after
      → Answers is_right tells stands seen (is_get method) before r (request_for method target body)
      after
  moved before after r request get method target body e f a =
      subst (λ (q : Request). Answers is_right tells stands seen (is_get method) before r q after) e
      (subst (λ (g : Bool). Answers is_right tells stands seen g before r request after) f a)

  pub IsReply-wanted : (before after : Desk) (bytes : List ℕ) (r : Reply) (request : Request)
      (get : Bool) (asks : Asked) → IsAsked bytes asks
      → Wants (wanted.Request request get) asks
      → Answers is_right tells stands seen get before r request after
      → IsReply is_right tells stands seen None before bytes r after
  IsReply-wanted before after bytes r request get (refused status) x w a = absurd w
  IsReply-wanted before after bytes Memory request get (asked m t b) x w a = absurd a
  IsReply-wanted before after bytes (Bad status) request get (asked m t b) x w a = absurd a
  IsReply-wanted before after bytes Elsewhere request get (asked m t b) x w a = absurd a
  IsReply-wanted before after bytes (Became o s short) request get (asked m t b) x w a =
      (λ no. no, m, t, b, x, moved before after (Became o s short) request get m t b w.0 w.1 a)
  IsReply-wanted before after bytes NoRoute request get (asked m t b) x w a = (
    λ no. no,
    m,
    t,
    b,
    x,
    moved before after NoRoute request get m t b w.0 w.1 a,
  )
  IsReply-wanted before after bytes BadCommand request get (asked m t b) x w a = (
    λ no. no,
    m,
    t,
    b,
    x,
    moved before after BadCommand request get m t b w.0 w.1 a,
  )
  IsReply-wanted before after bytes NotText request get (asked m t b) x w a = (
    λ no. no,
    m,
    t,
    b,
    x,
    moved before after NotText request get m t b w.0 w.1 a,
  )

  pub IsReply-bad : (before after : Desk) (bytes : List ℕ) (status : Status) (asks : Asked)
      → IsAsked bytes asks → Wants (wanted.Bad status) asks → after ≡ before
      → IsReply is_right tells stands seen None before bytes (Bad status) after
  IsReply-bad before after bytes status (refused given) x w same = (
    λ no. no,
    subst (λ (s : Status). IsAsked bytes (refused s)) (sym w) x,
    same,
  )
  IsReply-bad before after bytes status (asked m t b) x w same = absurd w
