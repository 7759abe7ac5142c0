-- A recorded choice is minimal.
use Rattle.std.proofs.Common.{◌≡◌, ℕ, true, List, [], ◌∷◌, ◌++◌, Option, Some, None, refl, subst}
use Rattle.std.specs.Prelude.{find, is_some, IsTrue}
use Rattle.std.specs.List.{filter_map}
use Rattle.std.specs.Option.{option_and_then}
use Rattle.desk_base.proofs.Lists.{is_there}
use Rattle.desk_model.specs.Readings.{Readings}
use Rattle.desk_model.specs.Keys.{is_document}
use Rattle.desk_model.specs.History.{documents}
use Rattle.desk_model.specs.Answers.{answer, is_recorded, IsHistory, conclusion, Choosing, choosing}
use Rattle.desk_model.specs.Answers.{not_enough, not_minimal, unconcluded, verdict_on}
use Rattle.desk_history.specs.Laws.{IsMinimalChoice}
use Rattle.desk_history.proofs.Recorded.{chooses}
use Rattle.desk_model.specs.declared.reading.Conclusion.{Conclusion}
use Rattle.desk_model.specs.declared.reading.Verdict.{Verdict}
use Rattle.desk_model.specs.declared.reading.Verdict.TheVariants.{NotEnough, Superfluous, Minimal}
use Rattle.desk_model.specs.declared.row.PackageRow.{PackageRow}
use Rattle.desk_model.specs.declared.command.Command.{Command}
use Rattle.desk_model.specs.declared.command.Command.TheVariants.{Choose}

minimal_by : (terms : List (List ℕ)) (v : Verdict) → not_enough v ≡ None
    → not_minimal terms v ≡ None → v ≡ Minimal
minimal_by terms NotEnough e f = cc
minimal_by terms (Superfluous i) e f = cc
minimal_by terms Minimal e f = refl

record Chosen (w : Readings) (conclusion : PackageRow → Option Conclusion)
    (row_found : Option PackageRow) (terms : List (List ℕ)) : Type 0 where
  row : PackageRow
  concluded : Conclusion
  has : row_found ≡ Some row
  concludes : conclusion row ≡ Some concluded
  minimal : w.verdict concluded.profile concluded.text terms ≡ Minimal

-- terms for which nothing is refused
chosen_by : (w : Readings) (conclusion : PackageRow → Option Conclusion) (terms : List (List ℕ))
    (row_found : Option PackageRow) (o : Option Conclusion)
    → option_and_then conclusion row_found ≡ o → is_some row_found ≡ true
    → option_and_then (unconcluded o) row_found ≡ None
    → option_and_then not_enough (verdict_on w o terms) ≡ None
    → option_and_then (not_minimal terms) (verdict_on w o terms) ≡ None
    → Chosen w conclusion row_found terms
chosen_by w conclusion terms None o is known concluded enough minimal = absurd (cc)
chosen_by w conclusion terms (Some row) None is known concluded enough minimal = absurd (cc)
chosen_by w conclusion terms (Some row) (Some c) is known concluded enough minimal =
    record {
      row = row;
      concluded = c;
      has = refl;
      concludes = is;
      minimal = minimal_by terms (w.verdict c.profile c.text terms) enough minimal;
    }

pub recorded_is_minimal : (w : Readings) (before : List Command) (r : List ℕ) (d : ℕ) (p : List ℕ)
    (texts : List (List ℕ)) → IsTrue (is_recorded (answer w before (Choose r d p texts)))
    → IsMinimalChoice w before d p texts
recorded_is_minimal w before r d p texts e =
    let found : Choosing = choosing w before r d p in
    let is = chooses w texts found e in
    let document = is_there (find (is_document d) (documents w before)) is.has_document in
    let c = chosen_by w (conclusion w before) (filter_map w.term texts) found.row found.conclusion
    refl is.has_package is.concluded is.enough is.minimal in
    record {
      document = document.0;
      row = c.row;
      concluded = c.concluded;
      of = document.1;
      has = c.has;
      concludes = c.concludes;
      minimal = c.minimal;
    }

pub history_before : (w : Readings) (later before : List Command) → IsHistory w (later ++ before)
    → IsHistory w before
history_before w [] before ok = ok
history_before w (c ∷ later) before ok = history_before w later before ok.1

pub each_is_minimal : (w : Readings) (h later before : List Command) (r : List ℕ) (d : ℕ)
    (p : List ℕ) (texts : List (List ℕ)) → IsHistory w h → h ≡ later ++ Choose r d p texts ∷ before
    → IsMinimalChoice w before d p texts
each_is_minimal w h later before r d p texts ok e = recorded_is_minimal w before r d p texts
    (history_before w later (Choose r d p texts ∷ before) (subst (IsHistory w) e ok)).0
