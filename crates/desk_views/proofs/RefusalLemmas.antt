-- A question for a page that isn't answered is refused.
use Rattle.std.proofs.Common.{◌≡◌, ◌∙◌, ℕ, Bool, true, false, List, inl, inr, map, refl, sym}
use Rattle.std.specs.Prelude.{◌⊎◌, if◌then◌else◌, is_some}
use Rattle.desk_model.specs.Bills.{bill_answer, bill_of}
use Rattle.desk_model.specs.History.{form_of, state_of}
use Rattle.desk_model.specs.Moves.{changes, duty_at}
use Rattle.desk_model.specs.Queries.{duties_of, duty_line, queried, totals_of}
use Rattle.desk_model.specs.Raised.{shipped}
use Rattle.desk_model.specs.Readings.{Readings}
use Rattle.desk_model.specs.Tables.{release_row, tables}
use Rattle.desk_model.specs.declared.bill.Bill.{Bill}
use Rattle.desk_model.specs.declared.command.Answer.{Answer}
use Rattle.desk_model.specs.declared.command.Answer.TheVariants as answered
use Rattle.desk_model.specs.declared.command.Command.{Command}
use Rattle.desk_model.specs.declared.command.DutyLine.{DutyLine}
use Rattle.desk_model.specs.declared.command.Query.TheVariants as query
use Rattle.desk_model.specs.declared.command.Totals.{Totals}
use Rattle.desk_model.specs.declared.refusal.Refusal.{Refusal}
use Rattle.desk_model.specs.declared.refusal.Refusal.TheVariants as why
use Rattle.desk_model.specs.declared.row.ChangeRow.{ChangeRow}
use Rattle.desk_model.specs.declared.state.ReleaseState.{ReleaseState}
use Rattle.desk_model.specs.declared.state.ReleaseState.TheVariants as release

-- an answer is of this kind, or a refusal
abbrev IsOrRefused : {T : Type 0} → (T → Answer) → Answer → Type 0
IsOrRefused {T} kind a = ((told : T) × (a ≡ kind told)) ⊎ ((u : Refusal) × (a ≡ answered.Refused u))

told_or_refused : {T : Type 0} (kind : T → Answer) (b : Bool) (a : Answer) (u : Refusal)
    → IsOrRefused kind a → IsOrRefused kind (if b then a else answered.Refused u)
told_or_refused kind true a u is = is
told_or_refused kind false a u is = inr (u, refl)

bill_or_refused : (bill : Bill) (state : ReleaseState)
    → IsOrRefused answered.Bill (bill_answer bill state)
bill_or_refused bill release.IsOpen = inr (why.ReleaseState release.IsOpen, refl)
bill_or_refused bill release.Frozen = inl (bill, refl)
bill_or_refused bill release.Withdrawn = inr (why.ReleaseState release.Withdrawn, refl)

other_refused : {T : Type 0} (kind : T → Answer) (a other : Answer) → IsOrRefused kind a
    → a ≡ other → ((told : T) → other ≡ kind told → ⊥)
    → (u : Refusal) × (a ≡ answered.Refused u) × (other ≡ answered.Refused u)
other_refused kind a other (inl (told, is)) same none = absurd (none told (sym same ∙ is))
other_refused kind a other (inr (u, is)) same none = (u, is, sym same ∙ is)

module _ (w : Readings) (h : List Command) where
  pub bill_refused : (r : List ℕ) (other : Answer) → queried w h (query.Bill r) ≡ other
      → ((told : Bill) → other ≡ answered.Bill told → ⊥)
      → (u : Refusal) × (queried w h (query.Bill r) ≡ answered.Refused u)
      × (other ≡ answered.Refused u)
  bill_refused r other is none =
      let t = tables w h in
      other_refused answered.Bill _ other
      (told_or_refused answered.Bill (is_some (form_of h r)) _ why.UnknownRelease
      (bill_or_refused (bill_of w t.catalogue t.extracted t.frozen (shipped w h r) (release_row h r))
      (state_of h r)))
      is none

  pub totals_refused : (r : List ℕ) (other : Answer) → queried w h (query.Totals r) ≡ other
      → ((told : Totals) → other ≡ answered.Totals told → ⊥)
      → (u : Refusal) × (queried w h (query.Totals r) ≡ answered.Refused u)
      × (other ≡ answered.Refused u)
  totals_refused r other is none =
      other_refused answered.Totals _ other
      (told_or_refused answered.Totals (is_some (form_of h r)) _ why.UnknownRelease
      (inl (totals_of (duties_of w h r), refl)))
      is none

  pub duties_refused : (r : List ℕ) (other : Answer) → queried w h (query.Duties r) ≡ other
      → ((told : List DutyLine) → other ≡ answered.Duties told → ⊥)
      → (u : Refusal) × (queried w h (query.Duties r) ≡ answered.Refused u)
      × (other ≡ answered.Refused u)
  duties_refused r other is none =
      other_refused answered.Duties _ other
      (told_or_refused answered.Duties (is_some (form_of h r)) _ why.UnknownRelease
      (inl (map (duty_line (changes w h)) (duties_of w h r), refl)))
      is none

  pub changes_refused : (number : ℕ) (other : Answer) → queried w h (query.Changes number) ≡ other
      → ((told : List ChangeRow) → other ≡ answered.Changes told → ⊥)
      → (u : Refusal) × (queried w h (query.Changes number) ≡ answered.Refused u)
      × (other ≡ answered.Refused u)
  changes_refused number other is none =
      other_refused answered.Changes _ other
      (told_or_refused answered.Changes (is_some (duty_at w h number)) _ why.UnknownDuty
      (inl (changes w h number, refl)))
      is none
