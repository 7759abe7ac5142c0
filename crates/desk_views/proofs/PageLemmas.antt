-- What a page comes to if a question for it gets another answer, and if the desk fails.
use Rattle.std.proofs.Common.{◌≡◌, ◌∙◌, ℕ, ◌+◌, ◌<◌, List, [], ◌∷◌, ◌++◌, Option, Ok, Err, length}
use Rattle.std.proofs.Common.{get_or, map, take, ap, ap₂, inl, inr, refl, subst, sym}
use Rattle.std.proofs.lemmas.List.{map-append, map_more}
use Rattle.std.specs.Prelude.{Result, IfOk, IfErr, Vec}
use Rattle.std.specs.declared.alloc.Global.{Global}
use Rattle.std.specs.Result.{IsErr, IsErrAnd}
use Rattle.std.specs.Io.KnownBytes.{Appends}
use Rattle.desk_model.specs.Queries.{queried}
use Rattle.desk_model.specs.Readings.{Readings}
use Rattle.desk_model.specs.Tables.{tables}
use Rattle.desk_model.specs.declared.command.Answer.{Answer}
use Rattle.desk_model.specs.declared.command.Answer.TheVariants as answered
use Rattle.desk_model.specs.declared.command.Command.{Command}
use Rattle.desk_model.specs.declared.command.DutyLine.{DutyLine}
use Rattle.desk_model.specs.declared.command.Fault.{Fault}
use Rattle.desk_model.specs.declared.command.Outcome.{Outcome}
use Rattle.desk_model.specs.declared.command.Outcome.TheVariants as outcome_is
use Rattle.desk_model.specs.declared.command.Query.{Query}
use Rattle.desk_model.specs.declared.command.Query.TheVariants as query
use Rattle.desk_model.specs.declared.row.ChangeRow.{ChangeRow}
use Rattle.desk_access.specs.Seen.{Kept, Looked, Same, Seen}
use Rattle.desk_core.specs.Desks.{InHistory}
use Rattle.desk_subcommands.specs.Failures.{IsOfOutput, OfRequest}
use Rattle.desk_subcommands.specs.Filing.{answer_status, outcome_line}
use Rattle.desk_subcommands.specs.declared.failure.Failure.{Failure}
use Rattle.desk_subcommands.specs.declared.failure.Failure.TheVariants as failure
use Rattle.desk_views.specs.Paging.{AreChanges, AreContents, Gathers, IsOther, IsOtherChange}
use Rattle.desk_views.specs.Paging.{IsPaged, IsToldBy, LookedUp, contents_text, rows_in}
use Rattle.desk_views.specs.declared.paging.Contents.{Contents}

module _ {Left : Type 0} (a b : Seen Left) where
  pub looked_up_err : {A : Type 0} (r : Result A Outcome) → IsErr r → Kept a b → LookedUp a b r
  looked_up_err (Ok x) none k = absurd (cc)
  looked_up_err (Err outcome) is k = k

  pub asked_kept : (asked : Result Answer Fault) → Looked a b asked → Kept a b
  asked_kept (Ok answer) kept = kept.kept
  asked_kept (Err fault) kept = kept

  pub asked_same : (answer : Answer) (asked : Result Answer Fault) → Looked a b asked
      → asked ≡ Ok answer → Same a b
  asked_same answer asked kept is = subst (λ r. Looked a b r) is kept

module _ {Left : Type 0} (is_right : Readings → Type 0) (a b : Seen Left) where
  -- what is true after a successful look-up was true before it
  pub found_after : (Is : Readings → List Command → Type 0) (c : Seen Left) → Same a b
      → InHistory is_right Is b c → InHistory is_right Is a c
  found_after Is c same found w right honest h ok held = found w right honest h ok
      (same.kept.spared.holds (tables w h) held)

  -- a question got another kind of answer, or came to a fault
  pub asked_other : {T : Type 0} (kind : T → Answer) (q : Query)
      (Is : Readings → List Command → Outcome → Type 0)
      (asked : Result Answer Fault) (outcome : Outcome)
      → IfOk asked (λ answer. InHistory is_right (λ w h. answer ≡ queried w h q) a b)
      → IsToldBy kind asked (Err outcome)
      → ((w : Readings) (h : List Command) (other : Answer) → queried w h q ≡ other
      → ((told : T) → other ≡ kind told → ⊥) → Is w h (outcome_is.Answered other))
      → ((w : Readings) (h : List Command) (fault : Fault) → Is w h (outcome_is.Failed fault))
      → InHistory is_right (λ w h. Is w h outcome) a b
  asked_other kind q Is (Ok answer) outcome told is other failed w right honest h ok held =
      subst (Is w h) (sym is.0) (other w h answer (sym (told w right honest h ok held))
      (λ it same. is.1 it (ap Ok same)))
  asked_other kind q Is (Err fault) outcome told is other failed w right honest h ok held =
      subst (Is w h) (sym is.0) (failed w h fault)

  -- and this outcome is returned as it is
  pub gathers_other : (r : List ℕ) (gathered : Result Contents Outcome) (outcome : Outcome)
      → IsErrAnd gathered (λ o. o ≡ outcome)
      → InHistory is_right (λ w h. IsOther w h r outcome) a b
      → InHistory is_right (λ w h. Gathers w h r gathered) a b
  gathers_other r (Ok contents) outcome is found w right honest h ok held = absurd is
  gathers_other r (Err other) outcome is found w right honest h ok held = subst (IsOther w h r)
      (sym is) (found w right honest h ok held)

  -- the outcome of a question for the changes of a duty is returned in place of all changes
  pub changes_other : (lines : List DutyLine)
      (changes : Result (Vec (List ChangeRow) Global) Outcome) (outcome : Outcome)
      → IsErrAnd changes (λ o. o ≡ outcome)
      → InHistory is_right (λ w h. IsOtherChange w h outcome) a b
      → InHistory is_right (λ w h. AreChanges w h lines (rows_in changes)) a b
  changes_other lines (Ok changes) outcome is found w right honest h ok held = absurd is
  changes_other lines (Err other) outcome is found w right honest h ok held = subst (IsOtherChange w
      h) (sym is) (found w right honest h ok held)

  -- so it is an outcome of a question for the page
  pub gathers_change : (r : List ℕ) (outcome : Outcome)
      → InHistory is_right (λ w h. IsOtherChange w h outcome) a b
      → InHistory is_right (λ w h. IsOther w h r outcome) a b
  gathers_change r (outcome_is.Answered other) found w right honest h ok held =
      let it = found w right honest h ok held in
      (query.Changes it.0, it.1, inr (inr (inr (it.0, refl))), it.2, it.3)
  gathers_change r (outcome_is.Failed fault) found w right honest h ok held = tt

-- the changes of one more duty
pub changes_more : (w : Readings) (h : List Command) (lines : List DutyLine) (i : ℕ)
    (line : DutyLine) (changes after : List (List ChangeRow))
    (rows : List ChangeRow) → i < length lines → line ≡ get_or lines i line
    → map (λ line. queried w h (query.Changes line.number)) (take i lines)
    ≡ map answered.Changes changes
    → queried w h (query.Changes line.number) ≡ answered.Changes rows → after ≡ changes ++ rows ∷ []
    → map (λ line. queried w h (query.Changes line.number)) (take (i + 1) lines)
    ≡ map answered.Changes after
changes_more w h lines i line changes after rows inside at so_far told pushed =
    let asked = λ (line : DutyLine). queried w h (query.Changes line.number) in
    map_more asked lines i line inside
    ∙ ap₂ (λ (a : List Answer) (b : Answer). a ++ b ∷ []) so_far (ap asked (sym at) ∙ told)
    ∙ sym (ap (map answered.Changes) pushed ∙ map-append answered.Changes changes (rows ∷ []))

pub other_told : {Left : Type 0} (is_right : Readings → Type 0) (r : List ℕ) (a b : Seen Left)
    (old new : Option (List ℕ)) (result : Result ℕ Failure)
    → IfOk result (λ status. (answer : Answer)
    × InHistory is_right (λ w h. IsOther w h r (outcome_is.Answered answer)) a b
    × Appends old new (outcome_line (outcome_is.Answered answer)) × (status ≡ answer_status answer))
    → IfOk result (λ status. (text : List ℕ)
    × InHistory is_right (λ w h. IsPaged w h r text status) a b × Appends old new text)
other_told is_right r a b old new (Ok status) (answer, comes, written, same) = (
  outcome_line (outcome_is.Answered answer),
  (λ w right honest h ok held.
      let it = comes w right honest h ok held in
      inr (
        it.0,
        it.1,
        it.2,
        it.3,
        ap (λ x. outcome_line (outcome_is.Answered x)) it.4,
        same ∙ ap answer_status it.4,
      )),
  written,
)
other_told is_right r a b old new (Err why) told = tt

pub failed_told : (old new : Option (List ℕ)) (outcome : Outcome) (result : Result ℕ Failure)
    → IfErr result (OfRequest (λ fault. (outcome ≡ outcome_is.Failed fault)
    × Appends old new (outcome_line outcome)) (Unit {0}))
    → IfErr result (OfRequest (λ fault. Appends old new (outcome_line (outcome_is.Failed fault)))
    (Unit {0}))
failed_told old new outcome (Ok status) told = tt
failed_told old new outcome (Err (failure.Request fault)) (
  is,
  written,
) = subst (λ o. Appends old new (outcome_line o)) is written
failed_told old new outcome (Err (failure.Memory error)) told = tt
failed_told old new outcome (Err (failure.Write error)) told = tt
failed_told old new outcome (Err (failure.Script fault)) told = absurd told
failed_told old new outcome (Err (failure.Failed count)) told = absurd told
failed_told old new outcome (Err (failure.Read path error)) told = absurd told
failed_told old new outcome (Err (failure.Database path trouble)) told = absurd told
failed_told old new outcome (Err (failure.Close path trouble)) told = absurd told
failed_told old new outcome (Err (failure.Listen port trouble)) told = absurd told
failed_told old new outcome (Err (failure.Connections count)) told = absurd told
failed_told old new outcome (Err (failure.Tree fault)) told = absurd told
failed_told old new outcome (Err (failure.UnknownName name)) told = absurd told
failed_told old new outcome (Err (failure.NotAFolder path)) told = absurd told
failed_told old new outcome (Err failure.BadValue) told = absurd told

-- the page was written from the desk's answers
pub page_written : {Left : Type 0} (is_right : Readings → Type 0) (r : List ℕ) (a b : Seen Left)
    (old new : Option (List ℕ)) (contents : Contents)
    (result : Result ℕ Failure) → InHistory is_right (λ w h. AreContents w h r contents) a b
    → IfOk result (λ status. (status ≡ 0) × Appends old new (contents_text contents))
    → IfOk result (λ status. (text : List ℕ)
    × InHistory is_right (λ w h. IsPaged w h r text status) a b × Appends old new text)
page_written is_right r a b old new contents (Ok status) found (zero, written) = (
  contents_text contents,
  (λ w right honest h ok held. inl (contents, found w right honest h ok held, refl, zero)),
  written,
)
page_written is_right r a b old new contents (Err why) found told = tt

-- writing a page has no failure of a request
pub page_told : (told : Fault → Type 0) (result : Result ℕ Failure) → IfErr result IsOfOutput
    → IfErr result (OfRequest told (Unit {0}))
page_told told (Ok status) fails = tt
page_told told (Err (failure.Memory error)) fails = tt
page_told told (Err (failure.Write error)) fails = tt
page_told told (Err (failure.Request fault)) fails = absurd fails
page_told told (Err (failure.Script fault)) fails = absurd fails
page_told told (Err (failure.Failed count)) fails = absurd fails
page_told told (Err (failure.Read path error)) fails = absurd fails
page_told told (Err (failure.Database path trouble)) fails = absurd fails
page_told told (Err (failure.Close path trouble)) fails = absurd fails
page_told told (Err (failure.Listen port trouble)) fails = absurd fails
page_told told (Err (failure.Connections count)) fails = absurd fails
page_told told (Err (failure.Tree fault)) fails = absurd fails
page_told told (Err (failure.UnknownName name)) fails = absurd fails
page_told told (Err (failure.NotAFolder path)) fails = absurd fails
page_told told (Err failure.BadValue) fails = absurd fails
