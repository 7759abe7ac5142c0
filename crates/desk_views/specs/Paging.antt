-- The page on a release: what is asked of a desk for it, and what is written.
use Rattle.std.specs.Prelude.{◌≡◌, ◌⊎◌, ℕ, List, map, Result, Ok, Err, Vec}
use Rattle.std.specs.declared.alloc.Global.{Global}
use Rattle.desk_access.specs.Seen.{Kept, Same, Seen}
use Rattle.desk_model.specs.Faults.{outcome_of}
use Rattle.desk_model.specs.Queries.{queried}
use Rattle.desk_model.specs.Readings.{Readings}
use Rattle.desk_model.specs.declared.command.Answer.{Answer}
use Rattle.desk_model.specs.declared.command.Answer.TheVariants as answered
use Rattle.desk_model.specs.declared.command.Command.{Command}
use Rattle.desk_model.specs.declared.command.DutyLine.{DutyLine}
use Rattle.desk_model.specs.declared.command.Fault.{Fault}
use Rattle.desk_model.specs.declared.command.Outcome.{Outcome}
use Rattle.desk_model.specs.declared.command.Outcome.TheVariants.{Answered, Failed}
use Rattle.desk_model.specs.declared.command.Query.{Query}
use Rattle.desk_model.specs.declared.command.Query.TheVariants as query
use Rattle.desk_model.specs.declared.refusal.Refusal.{Refusal}
use Rattle.desk_model.specs.declared.row.ChangeRow.{ChangeRow}
use Rattle.desk_page.specs.Page.{page_text}
use Rattle.desk_subcommands.specs.Filing.{outcome_line}
use Rattle.desk_views.specs.declared.paging.Contents.{Contents}

-- a question gets this kind of answer; or it gets another, and its outcome is returned as it is
abbrev pub IsToldBy : {T : Type 0} → (T → Answer) → Result Answer Fault → Result T Outcome → Type 0
IsToldBy kind asked (Ok told) = asked ≡ Ok (kind told)
IsToldBy {T} kind asked (Err outcome) = (outcome ≡ outcome_of asked)
    × ((told : T) → asked ≡ Ok (kind told) → ⊥)

-- the refusal of a question for the changes of some duty, reported instead of these; nothing is
-- said of a fault
abbrev pub IsOtherChange : Readings → List Command → Outcome → Type 0
IsOtherChange w h (Answered other) = (number : ℕ) × (why : Refusal)
    × (queried w h (query.Changes number) ≡ answered.Refused why) × (other ≡ answered.Refused why)
IsOtherChange w h (Failed fault) = Unit {0}

-- the changes of each duty, or the refusal of a question for those of some duty
abbrev pub AreChanges : Readings → List Command → List DutyLine
    → Result (List (List ChangeRow)) Outcome → Type 0
AreChanges w h lines (Ok changes) = map (λ line. queried w h (query.Changes line.number)) lines
    ≡ map answered.Changes changes
AreChanges w h lines (Err outcome) = IsOtherChange w h outcome

-- rows in vectors as lists of rows
abbrev pub rows_in : Result (Vec (List ChangeRow) Global) Outcome
    → Result (List (List ChangeRow)) Outcome
rows_in (Ok changes) = Ok changes.items
rows_in (Err outcome) = Err outcome

-- what looking something up does to a desk: nothing, although after a fault of the disk it may no
-- longer show its rows
abbrev pub LookedUp : {Left A : Type 0} → Seen Left → Seen Left → Result A Outcome → Type 0
LookedUp old new (Ok found) = Same old new
LookedUp old new (Err outcome) = Kept old new

-- what a page on a release is written from
pub record AreContents (w : Readings) (h : List Command) (release : List ℕ)
    (c : Contents) : Type 0 where
  pub bill : queried w h (query.Bill release) ≡ answered.Bill c.bill
  pub totals : queried w h (query.Totals release) ≡ answered.Totals c.totals
  pub duties : queried w h (query.Duties release) ≡ answered.Duties c.duties
  pub changes : map (λ line. queried w h (query.Changes line.number)) c.duties
      ≡ map answered.Changes c.changes.items

-- a question that is asked for a page on a release
abbrev pub IsFor : List ℕ → Query → Type 0
IsFor release q = (q ≡ query.Bill release)
    ⊎ ((q ≡ query.Totals release)
    ⊎ ((q ≡ query.Duties release) ⊎ ((number : ℕ) × (q ≡ query.Changes number))))

-- the refusal of such a question, reported instead of a page; nothing is said of a fault
abbrev pub IsOther : Readings → List Command → List ℕ → Outcome → Type 0
IsOther w h release (Answered other) = (q : Query) × (why : Refusal) × IsFor release q
    × (queried w h q ≡ answered.Refused why) × (other ≡ answered.Refused why)
IsOther w h release (Failed fault) = Unit {0}

-- what a page is written from, or the refusal of a question instead
abbrev pub Gathers : Readings → List Command → List ℕ → Result Contents Outcome → Type 0
Gathers w h release (Ok c) = AreContents w h release c
Gathers w h release (Err outcome) = IsOther w h release outcome

-- the page that these make, as HTML
abbrev pub contents_text : Contents → List ℕ
contents_text c = page_text c.bill c.totals c.duties c.changes.items

-- the page or, if a question for it is refused, the line of this reply, and the program's status
abbrev pub IsPaged : Readings → List Command → List ℕ → List ℕ → ℕ → Type 0
IsPaged w h release text status =
    ((c : Contents) × AreContents w h release c × (text ≡ contents_text c) × (status ≡ 0))
    ⊎ ((q : Query) × (why : Refusal) × IsFor release q × (queried w h q ≡ answered.Refused why)
    × (text ≡ outcome_line (Answered (answered.Refused why))) × (status ≡ 1))
