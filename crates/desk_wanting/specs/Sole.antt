-- Which choices of a release leave nothing to choose.
use Rattle.std.specs.Prelude.{ℕ, List, [], ◌∷◌, Option, Some, None, Result, Ok, Err, is_some}
use Rattle.std.specs.List.{filter_map}
use Rattle.std.specs.Option.{option_map, option_and_then}
use Rattle.desk_model.specs.Readings.{Readings}
use Rattle.desk_model.specs.Tables.{Tables}
use Rattle.desk_model.specs.Answers.{first_refusal, unless, unready}
use Rattle.desk_model.specs.declared.reading.Conclusion.{Conclusion}
use Rattle.desk_model.specs.declared.reading.ListFault.{ListFault}
use Rattle.desk_model.specs.declared.refusal.Refusal.{Refusal}
use Rattle.desk_model.specs.declared.refusal.Refusal.TheVariants as why
use Rattle.desk_model.specs.declared.row.PackageRow.{PackageRow}
use Rattle.desk_model.specs.declared.state.ReleaseState.{ReleaseState}
use Rattle.desk_history.specs.FromTables.{choice_found, conclusion_found, shipped_found, state_found}
use Rattle.desk_wanting.specs.declared.sole_choice.SoleChoice.{SoleChoice}

-- the set of a listing that has only one
abbrev pub sole_set : Result (List (List (List ℕ))) ListFault → Option (List (List ℕ))
sole_set (Ok (set ∷ [])) = Some set
sole_set _ = None

-- the sole set of a conclusion, if there is one
abbrev pub sole_terms : Readings → Option Conclusion → Option (List (List ℕ))
sole_terms w conclusion = option_and_then (λ c. sole_set (w.alternatives c.profile c.text))
    conclusion

-- the choice of terms for a package
abbrev pub choice_of : PackageRow → List (List ℕ) → SoleChoice
choice_of p terms = record { document = p.document; package_id = p.id; terms = terms }

-- the sole choice for a package, unless terms are already chosen for it
abbrev pub unchosen_choice : List (List ℕ) → PackageRow → Option (List (List ℕ)) → Option SoleChoice
unchosen_choice [] p set = option_map (choice_of p) set
unchosen_choice (term ∷ terms) p set = None

-- the sole choice for a package that a release ships
abbrev pub sole_choice_found : Readings → Tables → List ℕ → PackageRow → Option SoleChoice
sole_choice_found w t r p = unchosen_choice (choice_found t r p) p
    (sole_terms w (conclusion_found w t p))

-- the refusal of a choice for any package of a release: there is no such release, or it isn't open
abbrev pub release_refusal : Option ReleaseState → Option Refusal
release_refusal state = first_refusal
    (unless (is_some state) why.UnknownRelease ∷ option_and_then unready state ∷ [])

-- these, unless a refusal applies
abbrev pub these_unless : Option Refusal → List SoleChoice → Result (List SoleChoice) Refusal
these_unless None choices = Ok choices
these_unless (Some refusal) choices = Err refusal

-- the sole choices of a release, for the packages that it ships in their order
abbrev pub sole_choices_found : Readings → Tables → List ℕ → Result (List SoleChoice) Refusal
sole_choices_found w t r = these_unless (release_refusal (state_found t r))
    (filter_map (sole_choice_found w t r) (shipped_found t r))
