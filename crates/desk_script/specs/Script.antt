-- What a script does: to the desk, to what is written and to what is counted.
use Rattle.std.specs.Prelude.{◌≡◌, ◌≢◌, ℕ, ◌+◌, List, Option, IfSome, All, sum_by, take, drop}
use Rattle.std.specs.Io.KnownBytes.{Appends}
use Rattle.desk_base.specs.Lines.{CutsInto, LineText}
use Rattle.desk_base.specs.declared.lines.LineEnd.TheVariants.{Nothing}
use Rattle.desk_model.specs.Readings.{Readings}
use Rattle.desk_model.specs.Tables.{Tables}
use Rattle.desk_model.specs.declared.command.StoreFault.{StoreFault}
use Rattle.desk_access.specs.Seen.{Seen}
use Rattle.desk_json.specs.declared.request.Request.{Request}
use Rattle.desk_script.specs.Gathered.{Shows}
use Rattle.desk_script.specs.Lines.{BeginsWith, requests_of}
use Rattle.desk_script.specs.Losses.{AreToldUntil}
use Rattle.desk_script.specs.Replies.{AreReplied, IsRun}
use Rattle.desk_script.specs.Texts.{lines_of, count_refused, count_failed}
use Rattle.desk_script.specs.declared.answer.Reply.{Reply}
use Rattle.desk_script.specs.declared.line.Line.{Line}
use Rattle.desk_script.specs.declared.serving.ScriptEnd.{ScriptEnd}
use Rattle.desk_script.specs.declared.serving.ScriptStop.{ScriptStop}

-- no further line was refused, was no request or failed
abbrev pub IsUncounted : ScriptEnd → ScriptEnd → Type 0
IsUncounted from to = (to.refused ≡ from.refused) × (to.failed ≡ from.failed)

-- the bytes that a reader has left; any bytes if it doesn't say
abbrev pub AreLeft : Option (List ℕ) → List ℕ → Type 0
AreLeft remaining bytes = IfSome remaining (λ told. told ≡ bytes)

module _ (is_right : Readings → Type 0) (tells : StoreFault → Type 0) {Left Desk : Type 0}
    (stands : Left → Tables → Type 0) (seen : Desk → Seen Left) where
  -- After this many requests they are a run, on the way from one desk to the other: what is said of
  -- a run is true after each reply.
  pub record HasRun (n : ℕ) (requests : List Request) (replies : List Reply)
      (before after : Desk) : Type 0 where
    pub between : Desk
    pub replied : AreReplied is_right tells stands seen before (take n requests) (take n replies)
        between
    pub run : IsRun is_right stands (seen before) (take n requests) (take n replies) (seen between)
    pub rest : AreReplied is_right tells stands seen between (drop n requests) (drop n replies)
        after

  -- requests were answered, and the replies were written as lines and counted
  pub record Serves (requests : List Request) (before after : Desk) (old new : Option (List ℕ))
      (from to : ScriptEnd) : Type 0 where
    pub replies : List Reply
    pub replied : AreReplied is_right tells stands seen before requests replies after
    pub written : Appends old new (lines_of replies)
    pub refused : to.refused ≡ from.refused + sum_by count_refused replies
    pub failed : to.failed ≡ from.failed + sum_by count_failed replies

  -- requests were answered until a fault, and the replies were written as far as it allowed
  pub record ServesUntil (fault : ScriptStop) (requests : List Request) (before after : Desk)
      (old new : Option (List ℕ)) : Type 0 where
    pub replies : List Reply
    pub replied : AreReplied is_right tells stands seen before requests replies after
    pub told : AreToldUntil fault replies old new

  -- A whole script: the bytes are cut into lines, the request of each line that isn't blank is
  -- answered, the commands among the requests are a run, and the replies are written, a line each,
  -- and counted.
  pub record IsScript (bytes : List ℕ) (before after : Desk) (old new : Option (List ℕ))
      (end : ScriptEnd) : Type 0 where
    pub lines : List LineText
    pub replies : List Reply
    pub cut : CutsInto 1 bytes lines
    pub replied : AreReplied is_right tells stands seen before (requests_of lines) replies after
    pub run : IsRun is_right stands (seen before) (requests_of lines) replies (seen after)
    pub fronts : (n : ℕ) → HasRun n (requests_of lines) replies before after
    pub written : Appends old new (lines_of replies)
    pub refused : end.refused ≡ sum_by count_refused replies
    pub failed : end.failed ≡ sum_by count_failed replies

  -- A script that stopped: the bytes begin with some lines that were answered, and nothing else
  -- was; the commands among them are a run; and the replies are written, a line each, except the
  -- last one if it is lost. A script that was to stop at the first line that isn't done stopped
  -- there.
  pub record IsFront (fault : ScriptStop) (bytes : List ℕ) (before after : Desk)
      (old new : Option (List ℕ)) : Type 0 where
    pub lines : List LineText
    pub rest : List ℕ
    pub replies : List Reply
    pub begins : BeginsWith 1 bytes lines rest
    pub replied : AreReplied is_right tells stands seen before (requests_of lines) replies after
    pub run : IsRun is_right stands (seen before) (requests_of lines) replies (seen after)
    pub fronts : (n : ℕ) → HasRun n (requests_of lines) replies before after
    pub told : AreToldUntil fault replies old new

  -- a script whose reader gave no more than these bytes: the lines that an LF ended are answered,
  -- their replies are written, and nothing else is
  pub record IsCutOff (bytes : List ℕ) (before after : Desk)
      (old new : Option (List ℕ)) : Type 0 where
    pub lines : List LineText
    pub rest : List ℕ
    pub replies : List Reply
    pub begins : BeginsWith 1 bytes lines rest
    pub fed : All (λ l. l.end ≢ Nothing) lines
    pub no_lf : All (λ b. b ≢ 10) rest
    pub replied : AreReplied is_right tells stands seen before (requests_of lines) replies after
    pub run : IsRun is_right stands (seen before) (requests_of lines) replies (seen after)
    pub fronts : (n : ℕ) → HasRun n (requests_of lines) replies before after
    pub written : Appends old new (lines_of replies)

  -- a part of a script that stopped: the bytes begin with some lines, numbered from a number on,
  -- that are served until a fault
  pub record IsFrontAt (number : ℕ) (fault : ScriptStop) (bytes : List ℕ) (before after : Desk)
      (old new : Option (List ℕ)) : Type 0 where
    pub lines : List LineText
    pub rest : List ℕ
    pub begins : BeginsWith number bytes lines rest
    pub serves : ServesUntil fault (requests_of lines) before after old new

  -- the last part of a script: its bytes are cut into lines, numbered from a number on, and served
  pub record IsPart (number : ℕ) (bytes : List ℕ) (before after : Desk) (old new : Option (List ℕ))
      (from to : ScriptEnd) : Type 0 where
    pub lines : List LineText
    pub cut : CutsInto number bytes lines
    pub serves : Serves (requests_of lines) before after old new from to

  -- as far as some bytes came: the lines that an LF ended, numbered from a number on, are served,
  -- and what came after them is the line so far
  pub record HasServed (number : ℕ) (bytes : List ℕ) (before after : Desk)
      (old new : Option (List ℕ)) (from to : ScriptEnd) (line : Line) : Type 0 where
    pub lines : List LineText
    pub came : List ℕ
    pub begins : BeginsWith number bytes lines came
    pub fed : All (λ l. l.end ≢ Nothing) lines
    pub no_lf : All (λ b. b ≢ 10) came
    pub shows : Shows line came
    pub serves : Serves (requests_of lines) before after old new from to
