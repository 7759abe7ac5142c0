-- The replies to requests, one after another.
use Rattle.std.specs.Prelude.{◌≡◌, Bool, false, ◌||◌, List, [], ◌∷◌, sum_by}
use Rattle.desk_model.specs.Readings.{Readings}
use Rattle.desk_model.specs.Tables.{Tables, tables}
use Rattle.desk_model.specs.Answers.{IsHistory, is_recorded, refused_alone}
use Rattle.desk_model.specs.Queries.{queried}
use Rattle.desk_model.specs.Faults.{MayBecome}
use Rattle.desk_model.specs.Runs.{IsAnswer, AreAnswers, history_after, history_with}
use Rattle.desk_access.specs.Seen.{Seen, Outlasts, Spared}
use Rattle.desk_core.specs.Desks.{AllSpareStore, InHistory, IsLeft, Secures}
use Rattle.desk_model.specs.declared.command.Command.{Command}
use Rattle.desk_model.specs.declared.command.Fault.TheVariants.{Memory}
use Rattle.desk_model.specs.declared.command.Outcome.{Outcome}
use Rattle.desk_model.specs.declared.command.Outcome.TheVariants.{Answered, Failed}
use Rattle.desk_model.specs.declared.command.Query.{Query}
use Rattle.desk_model.specs.declared.command.StoreFault.{StoreFault}
use Rattle.desk_json.specs.declared.request.Request.{Request}
use Rattle.desk_json.specs.declared.request.Request.TheVariants.{Act, Ask, BadCommand}
use Rattle.desk_script.specs.Texts.{count_failed}
use Rattle.desk_script.specs.declared.answer.Reply.{Reply}
use Rattle.desk_script.specs.declared.answer.Reply.TheVariants.{Became, NoRequest}

-- what is no request gets a reply that says so, unless no memory is left to find that out
abbrev pub Fits : (StoreFault → Type 0) → Request → Reply → Type 0
Fits tells (Act c) (Became o) = MayBecome tells o
Fits tells (Ask q) (Became o) = MayBecome tells o
Fits tells BadCommand (Became (Failed Memory)) = Unit {0}
Fits tells BadCommand NoRequest = Unit {0}
Fits tells _ _ = ⊥

-- a command whose refusal is decided from the command alone has no fault of the store
abbrev pub SparesStore : Readings → Request → Reply → Type 0
SparesStore w (Act c) (Became o) = MayBecome (λ fault. refused_alone w c ≡ false) o
SparesStore w _ _ = Unit {0}

-- an outcome that is no fault is the answer to the query
abbrev pub IsQueried : Readings → List Command → Query → Outcome → Type 0
IsQueried w h q (Answered a) = a ≡ queried w h q
IsQueried w h q (Failed fault) = Unit {0}

-- the reply is the answer after a history
abbrev pub IsReply : Readings → List Command → Request → Reply → Type 0
IsReply w h (Act c) (Became o) = IsAnswer w h c o
IsReply w h (Ask q) (Became o) = IsQueried w h q o
IsReply w h _ _ = Unit {0}

-- the history with the command of a request, if it was recorded
abbrev pub history_past : List Command → Request → Reply → List Command
history_past h (Act c) (Became o) = history_with h c o
history_past h _ _ = h

-- only a command that was answered, and neither refused nor answered Again, is recorded
abbrev pub is_recorded_by : Request → Reply → Bool
is_recorded_by (Act c) (Became (Answered a)) = is_recorded a
is_recorded_by _ _ = false

-- some request of these was a command that its reply shows as recorded
abbrev pub is_any_recorded : List Request → List Reply → Bool
is_any_recorded (request ∷ requests) (reply ∷ replies) = is_recorded_by request reply
    || is_any_recorded requests replies
is_any_recorded _ _ = false

-- what a stop may leave after a reply; only a command adds to what it could leave before
abbrev pub IsLeftBy : {Left : Type 0} → (Left → Tables → Type 0) → Readings → List Command
    → Seen Left → Request → Reply → Left → Type 0
IsLeftBy stands w h old (Act c) (Became o) x = IsLeft stands w h old c o x
IsLeftBy stands w h old _ _ x = old.is_open → old.leaves x

module _ (is_right : Readings → Type 0) (tells : StoreFault → Type 0) {Left : Type 0}
    (stands : Left → Tables → Type 0) where
  -- A desk gives a request this reply. Whatever its rows are, they are as they were if nothing was
  -- recorded. For each right reading and each history whose tables they are, the reply is the
  -- answer of the history, and the desk then has the tables of the history with the command. It is
  -- also said what a stop leaves, and that the desk still shows its rows if the reply is no fault,
  -- and after a fault unless its disk failed.
  pub record Replies (old : Seen Left) (request : Request) (reply : Reply)
      (new : Seen Left) : Type 0 where
    pub fits : Fits tells request reply
    pub honest : new.is_honest → old.is_honest
    pub keeps : is_recorded_by request reply ≡ false → Spared old new
    pub outlasts : Outlasts old new
    pub answer : InHistory is_right (λ w h. IsReply w h request reply) old new
    pub content : InHistory is_right (λ w h. new.holds (tables w (history_past h request reply)))
        old new
    pub alone : (w : Readings) → is_right w → SparesStore w request reply
    pub stays : count_failed reply ≡ 0
        → InHistory is_right (λ w h. old.is_open → new.is_open) old new
    pub leaves : InHistory is_right
        (λ w h. (x : Left) → new.leaves x → IsLeftBy stands w h old request reply x) old new

  module _ {Desk : Type 0} (seen : Desk → Seen Left) where
    -- A desk gives requests these replies, one after another, each as the ones before it left the
    -- desk: so there is a desk between any two of them.
    abbrev pub AreReplied : Desk → List Request → List Reply → Desk → Type 0
    AreReplied before [] [] after = before ≡ after
    AreReplied before (request ∷ requests) (reply ∷ replies) after =
        (between : Desk) × Replies (seen before) request reply (seen between)
        × AreReplied between requests replies after
    AreReplied before _ _ after = ⊥

-- the commands among requests, and their outcomes
abbrev pub commands_of : List Request → List Command
commands_of [] = []
commands_of (Act c ∷ requests) = c ∷ commands_of requests
commands_of (_ ∷ requests) = commands_of requests

-- the outcome of each command, at its place; what comes of questions is left out
abbrev pub outcomes_of : List Request → List Reply → List Outcome
outcomes_of (Act c ∷ requests) (Became o ∷ replies) = o ∷ outcomes_of requests replies
outcomes_of (_ ∷ requests) (_ ∷ replies) = outcomes_of requests replies
outcomes_of _ _ = []

-- The commands among the requests are a run. Whatever the rows were, they are as they were if no
-- command was recorded. For each right reading and each history whose tables were the rows before,
-- each outcome that is no fault is the answer at its place, the recorded commands are added to the
-- history, and the rows afterwards are its tables. If there was no fault, and a stop left the rows
-- before the run and no others, a stop leaves the rows after it and no others. Only a fault of its
-- disk closes the desk.
pub record IsRun {Left : Type 0} (is_right : Readings → Type 0) (stands : Left → Tables → Type 0)
    (old : Seen Left) (requests : List Request) (replies : List Reply)
    (new : Seen Left) : Type 0 where
  pub honest : new.is_honest → old.is_honest
  pub keeps : is_any_recorded requests replies ≡ false → Spared old new
  pub outlasts : Outlasts old new
  pub alone : (w : Readings) → is_right w
      → AllSpareStore w (commands_of requests) (outcomes_of requests replies)
  pub answers : InHistory is_right
      (λ w h. AreAnswers w h (commands_of requests) (outcomes_of requests replies)) old new
  pub history : InHistory is_right
      (λ w h. IsHistory w (history_after h (commands_of requests) (outcomes_of requests replies)))
      old new
  pub content : InHistory is_right
      (λ w h. new.holds (tables w (history_after h (commands_of requests)
      (outcomes_of requests replies)))) old new
  pub secures : sum_by count_failed replies ≡ 0 → InHistory is_right
      (λ w h. Secures stands (tables w h) old
      → Secures stands (tables w (history_after h (commands_of requests)
      (outcomes_of requests replies))) new) old new
