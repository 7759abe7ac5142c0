-- What a freeze saw of its release and of the rules is in every later history.
use Rattle.std.proofs.Common.{◌≡◌, ℕ, ◌+◌, Bool, true, false, List, [], ◌∷◌, ◌++◌, length, map}
use Rattle.std.proofs.Common.{Option, Some, None, refl, sym, ap, ◌∙◌, inl, inr}
use Rattle.std.specs.Prelude.{is_some, if◌then◌else◌}
use Rattle.std.specs.Result.{result_ok}
use Rattle.std.specs.Str.{bytes_eq}
use Rattle.desk_base.proofs.Texts.{text_tells, same_text}
use Rattle.desk_model.specs.Lists.{IsIn, latest, or_else}
use Rattle.desk_model.specs.Readings.{Readings}
use Rattle.desk_model.specs.History.{form_given, form_of, revision_of, revisions, rule_row}
use Rattle.desk_model.specs.History.{rule_rows, rules_in, state_of}
use Rattle.desk_model.specs.Answers.{IsHistory}
use Rattle.desk_model.specs.declared.row.RuleRow.{RuleRow}
use Rattle.desk_model.specs.declared.command.Command.{Command}
use Rattle.desk_model.specs.declared.command.Command.TheVariants.{Freeze, LoadCatalogue, OpenRelease}
use Rattle.desk_history.proofs.Members.{in_left}
use Rattle.desk_history.proofs.OwnKeys.{open_at}
use Rattle.desk_history_laws.proofs.Recorded.{opened_form}
use Rattle.desk_history_laws.proofs.FrozenRows.{closed_behind}

-- ---- a frozen release isn't frozen again

-- ---- its revision and its form stay

pub revision_stays : (w : Readings) (later h : List Command) (r day : List ℕ)
    → IsHistory w (later ++ Freeze r day ∷ h)
    → revision_of (later ++ Freeze r day ∷ h) r ≡ length (revisions h)
revision_stays w [] h r day ok = rw (same_text r) refl
revision_stays w (Freeze r' day' ∷ later) h r day ok =
    elim (text_tells r' r) [
      | inl same ↦ absurd (closed_behind later h r day
          (ap (state_of (later ++ Freeze r day ∷ h)) (sym same.1)
          ∙ open_at w (later ++ Freeze r day ∷ h) r' day' ok.0))
      | inr differ ↦ rw differ.0 (revision_stays w later h r day ok.1)
    ]
revision_stays w (c ∷ later) h r day ok = revision_stays w later h r day ok.1

form_kept : (b : Bool) (form : List ℕ) (o : Option (List ℕ)) → b ≡ false
    → or_else (if b then Some form else None) o ≡ o
form_kept true form o e = cc
form_kept false form o e = refl

pub form_stays : (w : Readings) (later h : List Command) (r : List ℕ) → IsHistory w (later ++ h)
    → is_some (form_of h r) ≡ true → form_of (later ++ h) r ≡ form_of h r
form_stays w [] h r ok e = refl
form_stays w (OpenRelease r' form ∷ later) h r ok e =
    let old = form_stays w later h r ok.1 e in
    elim (text_tells r' r) [
      | inl same ↦
          let none : is_some (form_of (later ++ h) r') ≡ false =
          (opened_form w (later ++ h) r' form ok.0).1 in
          let there : is_some (form_of (later ++ h) r') ≡ true =
          ap (λ (n : List ℕ). is_some (form_of (later ++ h) n)) same.1 ∙ (ap is_some old ∙ e) in
          cc
      | inr differ ↦ form_kept (bytes_eq r' r) form (latest (form_given r) (later ++ h)) differ.0
          ∙ old
    ]
form_stays w (c ∷ later) h r ok e = form_stays w later h r ok.1 e

-- ---- rules stay

rules_grow : (w : Readings) (c : Command) (h : List Command) (row : RuleRow)
    → IsIn row (rule_rows w h) → IsIn row (rule_rows w (c ∷ h))
rules_grow w (LoadCatalogue text) h row m = in_left row (rule_rows w h)
    (map (rule_row (length (revisions h) + 1)) (rules_in (result_ok (w.catalogue text)))) m
rules_grow w c h row m = m

pub rules_stay : (w : Readings) (later h : List Command) (row : RuleRow) → IsIn row (rule_rows w h)
    → IsIn row (rule_rows w (later ++ h))
rules_stay w [] h row m = m
rules_stay w (c ∷ later) h row m = rules_grow w c (later ++ h) row (rules_stay w later h row m)
