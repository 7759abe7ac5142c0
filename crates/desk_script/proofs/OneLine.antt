-- The reply to one line.
use Rattle.std.proofs.Common.{◌≡◌, ℕ, ◌+◌, Bool, true, false, List, [], ◌∷◌, Option, length, take}
use Rattle.std.proofs.Common.{refl, sym, ap, ◌∙◌, subst, arith, append-nil, inl, inr}
use Rattle.std.specs.Prelude.{if◌then◌else◌, nat_lt}
use Rattle.std.specs.Io.KnownBytes.{Appends}
use Rattle.std.proofs.lemmas.List.{take_all}
use Rattle.desk_model.specs.Readings.{Readings}
use Rattle.desk_model.specs.Tables.{Tables, tables}
use Rattle.desk_model.specs.declared.command.Command.{Command}
use Rattle.desk_access.specs.Seen.{Seen}
use Rattle.desk_access.proofs.Chains.{outlasts_self, spared_self}
use Rattle.desk_model.specs.declared.command.Fault.TheVariants as fault_is
use Rattle.desk_model.specs.declared.command.Outcome.TheVariants as outcome_is
use Rattle.desk_model.specs.declared.command.StoreFault.{StoreFault}
use Rattle.desk_json.specs.Requests.{request_in}
use Rattle.desk_json.specs.declared.request.Request.{Request}
use Rattle.desk_json.specs.declared.request.Request.TheVariants.{Act, Ask, BadCommand}
use Rattle.desk_script.specs.Gathered.{HasCome}
use Rattle.desk_base.specs.Limits.{line_bytes}
use Rattle.desk_script.specs.Lines.{request_at, request_of}
use Rattle.desk_script.specs.Losses.{AreDone, IfStop, Loses}
use Rattle.desk_script.specs.Replies.{Fits, IsLeftBy, IsReply, Replies, SparesStore, history_past}
use Rattle.desk_script.specs.Script.{Serves, ServesUntil}
use Rattle.desk_script.specs.Texts.{line_of, count_refused, count_failed}
use Rattle.desk_script.specs.declared.answer.Reply.{Reply}
use Rattle.desk_script.specs.declared.answer.Reply.TheVariants.{Became, NoRequest}
use Rattle.desk_script.specs.declared.line.Line.{Line}
use Rattle.desk_script.specs.declared.serving.ScriptEnd.{ScriptEnd}
use Rattle.desk_script.specs.declared.serving.ScriptStop.{ScriptStop}
use Rattle.desk_script.specs.declared.serving.ScriptStop.TheVariants.{Read, Write, Turns, Memory, Refused, Failed}
use Rattle.desk_script.proofs.Chains.{AreReplied-one, Serves-none}

-- if there are no lines, all are done
none_done : (fault : ScriptStop) → IfStop (AreDone []) fault
none_done Refused = (refl, refl)
none_done Failed = (refl, refl)
none_done Read = tt
none_done Write = tt
none_done Turns = tt
none_done Memory = tt

-- all of a text within the limit is kept
kept_whole : (n : ℕ) (text : List ℕ) → nat_lt n (length text) ≡ false → take n text ≡ text
kept_whole n text short = take_all n text (grind (arith, short))

pub request_of-kept : (line : Line) (text : List ℕ) → HasCome line text → line.is_long ≡ false
    → request_of text ≡ request_in line.kept.items
request_of-kept line text h short =
    let at : nat_lt line_bytes (length text) ≡ false = sym h.long ∙ short in
    ap (λ (b : Bool). if b then BadCommand else request_in text) at
    ∙ ap request_in (sym (h.kept ∙ kept_whole line_bytes text at))

pub request_at-blank : (line : Line) (text : List ℕ) → HasCome line text → line.is_blank ≡ true
    → request_at text ≡ []
request_at-blank line text h blank = ap (λ (b : Bool). if b then [] else request_of text ∷ [])
    (sym h.blank ∙ blank)

pub request_at-one : (line : Line) (text : List ℕ) → HasCome line text → line.is_blank ≡ false
    → request_at text ≡ request_of text ∷ []
request_at-one line text h blank = ap (λ (b : Bool). if b then [] else request_of text ∷ [])
    (sym h.blank ∙ blank)

module _ (is_right : Readings → Type 0) (tells : StoreFault → Type 0) {Left : Type 0}
    (stands : Left → Tables → Type 0) where
  -- a reply that leaves the desk as it is
  still : (now : Seen Left) (request : Request) (reply : Reply) → Fits tells request reply
      → ((w : Readings) (h : List Command) → IsReply w h request reply)
      → ((h : List Command) → h ≡ history_past h request reply)
      → ((w : Readings) → SparesStore w request reply)
      → ((w : Readings) (h : List Command) (x : Left) → now.leaves x
      → IsLeftBy stands w h now request reply x)
      → Replies is_right tells stands now request reply now
  still now request reply fits answer past alone leaves = record {
    fits = fits;
    honest = λ h. h;
    keeps = λ none. spared_self now;
    outlasts = outlasts_self now;
    answer = λ w right clean h ok held. answer w h;
    content = λ w right clean h ok held. subst (λ (k : List Command). now.holds (tables w k))
        (past h) held;
    alone = λ w right. alone w;
    stays = λ none w right clean h ok held shown. shown;
    leaves = λ w right clean h ok held. leaves w h;
  }

  -- no memory is left to read a request
  pub Replies-memory : (now : Seen Left) (request : Request)
      → Replies is_right tells stands now request (Became (outcome_is.Failed fault_is.Memory)) now
  Replies-memory now (Act c) = still now (Act c) (Became (outcome_is.Failed fault_is.Memory)) tt
      (λ w h. tt) (λ h. refl) (λ w. tt) (λ w h x left shown. inl left)
  Replies-memory now (Ask q) = still now (Ask q) (Became (outcome_is.Failed fault_is.Memory)) tt
      (λ w h. tt) (λ h. refl) (λ w. tt) (λ w h x left shown. left)
  Replies-memory now BadCommand = still now BadCommand (Became (outcome_is.Failed fault_is.Memory))
      tt (λ w h. tt) (λ h. refl) (λ w. tt) (λ w h x left shown. left)

  pub no_request : (now : Seen Left) → Replies is_right tells stands now BadCommand NoRequest now
  no_request now = still now BadCommand NoRequest tt (λ w h. tt) (λ h. refl) (λ w. tt)
      (λ w h x left shown. left)

  -- a long line is no request
  pub Replies-long : (now : Seen Left) (line : Line) (text : List ℕ) → HasCome line text
      → line.is_long ≡ true → Replies is_right tells stands now (request_of text) NoRequest now
  Replies-long now line text h long =
      subst (λ (b : Bool). Replies is_right tells stands now
      (if b then BadCommand else request_in text) NoRequest now) (sym (sym h.long ∙ long))
      (no_request now)

module _ (is_right : Readings → Type 0) (tells : StoreFault → Type 0) {Left Desk : Type 0}
    (stands : Left → Tables → Type 0) (seen : Desk → Seen Left) where
  pub Serves-blank : (now : Desk) (w : Option (List ℕ)) (from : ScriptEnd) (line : Line)
      (text : List ℕ) → HasCome line text → line.is_blank ≡ true
      → Serves is_right tells stands seen (request_at text) now now w w from from
  Serves-blank now w from line text h blank =
      subst (λ (rs : List Request). Serves is_right tells stands seen rs now now w w from from)
      (sym (request_at-blank line text h blank)) (Serves-none is_right tells stands seen now w from)

  pub Serves-one : (now after : Desk) (u v : Option (List ℕ)) (from to : ScriptEnd) (line : Line)
      (text : List ℕ) (reply : Reply) → HasCome line text → line.is_blank ≡ false
      → Replies is_right tells stands (seen now) (request_of text) reply (seen after)
      → Appends u v (line_of reply) → to.refused ≡ from.refused + count_refused reply
      → to.failed ≡ from.failed + count_failed reply
      → Serves is_right tells stands seen (request_at text) now after u v from to
  Serves-one now after u v from to line text reply h blank replies written refused failed =
      subst (λ (rs : List Request). Serves is_right tells stands seen rs now after u v from to)
      (sym (request_at-one line text h blank))
      (record {
        replies = reply ∷ [];
        replied = AreReplied-one is_right tells stands seen now after (request_of text) reply
            replies;
        written = subst (λ (bs : List ℕ). Appends u v bs) (sym (append-nil (line_of reply)))
            written;
        refused = omega (arith, refused);
        failed = omega (arith, failed);
      })

  -- the reply to a line is lost
  pub ServesUntil-one : (fault : ScriptStop) (now after : Desk) (u v : Option (List ℕ))
      (line : Line) (text : List ℕ) (reply : Reply) → HasCome line text → line.is_blank ≡ false
      → Replies is_right tells stands (seen now) (request_of text) reply (seen after)
      → Loses fault reply u v
      → ServesUntil is_right tells stands seen fault (request_at text) now after u v
  ServesUntil-one fault now after u v line text reply h blank replies loses =
      subst (λ (rs : List Request). ServesUntil is_right tells stands seen fault rs now after u v)
      (sym (request_at-one line text h blank))
      (record {
        replies = reply ∷ [];
        replied = AreReplied-one is_right tells stands seen now after (request_of text) reply
            replies;
        told = inr (record {
          told = [];
          last = reply;
          are = refl;
          front = loses.front;
          lost = loses.lost;
          first = none_done fault;
          written = loses.written;
        });
      })
