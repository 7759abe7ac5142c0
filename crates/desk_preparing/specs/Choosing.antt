-- What the steps of a choice have found.
use Rattle.std.specs.Prelude.{◌≡◌, ◌&&◌, ℕ, List, [], ◌∷◌, is_some, Option, Some, None}
use Rattle.std.specs.List.{filter_map}
use Rattle.std.specs.Option.{option_map_or, option_and_then}
use Rattle.desk_model.specs.Readings.{Readings}
use Rattle.std.specs.Prelude.{Bool, false}
use Rattle.desk_model.specs.declared.state.ReleaseState.{ReleaseState}
use Rattle.std.specs.List.{list_any}
use Rattle.desk_model.specs.Keys.{is_attachment}
use Rattle.desk_model.specs.Tables.{Tables}
use Rattle.desk_history.specs.FromTables.{state_found, stands_document, package_found, conclusion_found}
use Rattle.desk_model.specs.declared.command.Answer.{Answer}
use Rattle.desk_model.specs.declared.command.Answer.TheVariants as answered
use Rattle.desk_preparing.specs.declared.choice.Place.{Place}
use Rattle.desk_preparing.specs.declared.choice.Found.{Found}
use Rattle.desk_preparing.specs.declared.choice.Found.TheVariants.{Here, Nowhere}
use Rattle.desk_preparing.specs.declared.choice.TermsRead.{TermsRead}
use Rattle.desk_preparing.specs.declared.choice.TermsRead.TheVariants.{Terms, BadTerm}
use Rattle.desk_model.specs.Answers.{refused_first, unless, first_bad, unready, unconcluded}
use Rattle.desk_model.specs.Answers.{verdict_on, not_enough, not_minimal}
use Rattle.desk_model.specs.declared.reading.Conclusion.{Conclusion}
use Rattle.desk_model.specs.declared.refusal.Refusal.TheVariants as why
use Rattle.desk_model.specs.declared.reading.Verdict.{Verdict}
use Rattle.desk_model.specs.declared.row.PackageRow.{PackageRow}

-- each text was read as a term, or the first that is none was found
abbrev pub AreTermsOf : Readings → List (List ℕ) → TermsRead → Type 0
AreTermsOf w texts (Terms terms) = (first_bad w 0 texts ≡ None) × (terms ≡ filter_map w.term texts)
AreTermsOf w texts (BadTerm i) = first_bad w 0 texts ≡ Some i

-- The answer to a choice, from one step on: of terms with this verdict
abbrev pub judged : List (List ℕ) → Verdict → Answer
judged terms verdict = refused_first (not_enough verdict ∷ not_minimal terms verdict ∷ [])
    answered.Done

-- for a package with this conclusion
abbrev pub choose_for : Readings → List (List ℕ) → Option Conclusion → PackageRow → Answer
choose_for w terms conclusion p = refused_first (
    unconcluded conclusion p
    ∷ option_and_then not_enough (verdict_on w conclusion terms)
    ∷ option_and_then (not_minimal terms) (verdict_on w conclusion terms)
    ∷ []) answered.Done

-- for a package in a release in this state
abbrev pub choose_shipped : Readings → List (List ℕ) → Bool → (PackageRow → Option Conclusion)
    → ReleaseState → PackageRow → Answer
choose_shipped w terms is_attached concluded state p = refused_first (
    unready state
    ∷ unless (is_attached && p.shipped) why.NotShipped
    ∷ unconcluded (concluded p) p
    ∷ option_and_then not_enough (verdict_on w (concluded p) terms)
    ∷ option_and_then (not_minimal terms) (verdict_on w (concluded p) terms)
    ∷ []) answered.Done

-- of terms that were read
abbrev pub choose_found : Readings → Tables → List ℕ → ℕ → List ℕ → List (List ℕ) → Answer
choose_found w t r d p terms =
    let row_found = package_found t d p in
    let verdict = verdict_on w (option_and_then (conclusion_found w t) row_found) terms in
    refused_first (
    unless (is_some (state_found t r)) why.UnknownRelease
    ∷ unless (stands_document t d) why.UnknownDocument
    ∷ unless (is_some row_found) why.UnknownPackage
    ∷ option_and_then unready (state_found t r)
    ∷ unless (list_any (is_attachment r d) t.attached
    && option_map_or (λ row. row.shipped) row_found false) why.NotShipped
    ∷ option_and_then (unconcluded (option_and_then (conclusion_found w t) row_found)) row_found
    ∷ option_and_then not_enough verdict
    ∷ option_and_then (not_minimal terms) verdict
    ∷ []) answered.Done

-- and of a document that was found, in a release in this state
abbrev pub choose_in : Readings → Tables → ReleaseState → List ℕ → ℕ → List ℕ → List (List ℕ)
    → Answer
choose_in w t state r d p terms = option_map_or
    (choose_shipped w terms (list_any (is_attachment r d) t.attached) (conclusion_found w t) state)
    (package_found t d p) (answered.Refused why.UnknownPackage)

-- where terms may be chosen, or the refusal, whatever the terms are
abbrev pub IsFound : Tables → List ℕ → ℕ → List ℕ → Found → Type 0
IsFound t r d p (Here place) =
    (place.document ≡ d) × ((w : Readings) (terms : List (List ℕ))
    → choose_for w terms (conclusion_found w t place.row) place.row ≡ choose_found w t r d p terms)
IsFound t r d p (Nowhere refusal) = (w : Readings) (terms : List (List ℕ))
    → answered.Refused refusal ≡ choose_found w t r d p terms

-- the same of a document that was found, in a release in this state
abbrev pub IsFoundIn : Tables → ReleaseState → List ℕ → ℕ → List ℕ → Found → Type 0
IsFoundIn t state r d p (Here place) =
    (place.document ≡ d) × ((w : Readings) (terms : List (List ℕ))
    → choose_for w terms (conclusion_found w t place.row) place.row
    ≡ choose_in w t state r d p terms)
IsFoundIn t state r d p (Nowhere refusal) = (w : Readings) (terms : List (List ℕ))
    → answered.Refused refusal ≡ choose_in w t state r d p terms

-- the same of a place that was looked up, by the state of the release and whether the document is
-- attached
abbrev pub IsOpenPlace : ReleaseState → Bool → Place → Found → Type 0
IsOpenPlace state attached place (Here found) =
    (found ≡ place) × ((w : Readings) (terms : List (List ℕ))
    (concluded : PackageRow → Option Conclusion)
    → choose_for w terms (concluded place.row) place.row
    ≡ choose_shipped w terms attached concluded state place.row)
IsOpenPlace state attached place (Nowhere refusal) =
    (w : Readings) (terms : List (List ℕ)) (concluded : PackageRow → Option Conclusion)
    → answered.Refused refusal ≡ choose_shipped w terms attached concluded state place.row
