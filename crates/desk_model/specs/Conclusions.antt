-- What the office concludes and adopts: for each package, and for each reference of a document, the
-- last one counts.
use Rattle.std.specs.Prelude.{ℕ, Bool, false, List, [], ◌∷◌, find, filter, Option, Some, None}
use Rattle.std.specs.Prelude.{unwrap_or, if◌then◌else◌, nat_lt}
use Rattle.std.specs.List.{list_any}
use Rattle.std.specs.Option.{option_map, option_map_or}
use Rattle.std.specs.Str.{bytes_eq}
use Rattle.desk_model.specs.Lists.{replaced}
use Rattle.desk_model.specs.Readings.{Readings}
use Rattle.desk_model.specs.Keys.{below_by, conclusion_order, adoption_order, is_conclusion}
use Rattle.desk_model.specs.Keys.{is_adoption, is_document, is_choice_of}
use Rattle.desk_model.specs.History.{profile_of, expression_in}
use Rattle.desk_base.specs.declared.profile.Profile.{Profile}
use Rattle.desk_base.specs.declared.profile.Profile.TheVariants.{Capitals}
use Rattle.desk_model.specs.declared.reading.Conclusion.{Conclusion}
use Rattle.desk_model.specs.declared.row.AdoptionRow.{AdoptionRow}
use Rattle.desk_model.specs.declared.row.ChoiceRow.{ChoiceRow}
use Rattle.desk_model.specs.declared.row.ConclusionRow.{ConclusionRow}
use Rattle.desk_model.specs.declared.row.DocumentRow.{DocumentRow}
use Rattle.desk_model.specs.declared.row.PackageRow.{PackageRow}
use Rattle.desk_model.specs.declared.row.ReleaseRow.{ReleaseRow}
use Rattle.desk_model.specs.declared.command.Command.{Command}
use Rattle.desk_model.specs.declared.command.Command.TheVariants.{Conclude, Adopt}

-- Conclusions

-- a conclusion by its package: a later one has the same key and replaces it
abbrev pub conclusion_row : ℕ → List ℕ → List ℕ → ConclusionRow
conclusion_row d p text = record { document = d; package_id = p; expression = text }

-- the office's conclusions, by document and package
abbrev pub conclusions : List Command → List ConclusionRow
conclusions [] = []
conclusions (Conclude d p text ∷ h) = replaced (below_by conclusion_order) (is_conclusion d p)
    (conclusion_row d p text) (conclusions h)
conclusions (_ ∷ h) = conclusions h

-- what the office concluded for a package
abbrev pub office_text : List ConclusionRow → ℕ → List ℕ → Option (List ℕ)
office_text rows d p = option_map (λ row. row.expression) (find (is_conclusion d p) rows)

-- what a Conclude concludes for a package
abbrev pub text_given : ℕ → List ℕ → Command → Option (List ℕ)
text_given d p (Conclude d' p' text) = if is_conclusion d p (conclusion_row d' p' text)
    then Some text else None
text_given d p _ = None

-- the profile of a package's document
abbrev pub profile_in : List DocumentRow → PackageRow → Profile
profile_in rows p = profile_of (find (is_document p.document) rows)

-- a conclusion's text, with the operators by which it is read
abbrev pub concluded_as : Profile → List ℕ → Conclusion
concluded_as profile text = record { profile = profile; text = text }

-- the office's conclusion, with operators in capitals; if there is none, the package's own field,
-- if that is an expression
abbrev pub conclusion_by : Readings → Option (List ℕ) → Profile → Option (List ℕ)
    → Option Conclusion
conclusion_by w (Some text) profile field = Some (concluded_as Capitals text)
conclusion_by w None profile field = option_map (concluded_as profile)
    (expression_in w profile field)

-- the conclusion in force for a package
abbrev pub conclusion_in : Readings → List DocumentRow → List ConclusionRow → PackageRow
    → Option Conclusion
conclusion_in w documents rows p = conclusion_by w (office_text rows p.document p.id)
    (profile_in documents p) p.concluded

-- Adoptions

-- a text spells a reference alone, with no exception
abbrev pub is_reference : Readings → List ℕ → Bool
is_reference w text = option_map_or (λ term. option_map_or (bytes_eq term) (w.reference term) false)
    (w.term text) false

-- a text spells a licence alone: no reference, no plus, no exception
abbrev pub is_plain : Readings → List ℕ → Bool
is_plain w text = option_map_or w.is_licence (w.term text) false

-- an adoption by its reference, with both texts printed as terms
abbrev pub adoption_row : Readings → ℕ → List ℕ → List ℕ → AdoptionRow
adoption_row w d reference licence = record {
  document = d;
  reference = unwrap_or (w.term reference) [];
  licence = unwrap_or (w.term licence) [];
}

-- the adoptions, by document and reference
abbrev pub adoptions : Readings → List Command → List AdoptionRow
adoptions w [] = []
adoptions w (Adopt d reference licence ∷ h) =
    let row = adoption_row w d reference licence in
    replaced (below_by adoption_order) (is_adoption d row.reference) row (adoptions w h)
adoptions w (_ ∷ h) = adoptions w h

-- the licence that a reference of a document is adopted as
abbrev pub licence_for : List AdoptionRow → ℕ → List ℕ → Option (List ℕ)
licence_for rows d reference = option_map (λ row. row.licence) (find (is_adoption d reference) rows)

-- what an Adopt gives for a reference of a document
abbrev pub licence_given : Readings → ℕ → List ℕ → Command → Option (List ℕ)
licence_given w d reference (Adopt d' r licence) = let row = adoption_row w d' r licence in
    if is_adoption d reference row then Some row.licence else None
licence_given w d reference _ = None

-- The adopted form of a term of a document: for a reference, the licence that it is adopted as,
-- with the same exception, or none if it isn't adopted; any other term is its own.
abbrev pub adopted : Readings → List AdoptionRow → ℕ → List ℕ → Option (List ℕ)
adopted w rows d term = option_map_or
    (λ reference. option_map (λ licence. w.adopted_as licence term) (licence_for rows d reference))
    (w.reference term) (Some term)

-- Holders

-- whether a release holds a choice for a package
abbrev pub holds : List ChoiceRow → ℕ → List ℕ → ReleaseRow → Bool
holds choices d p release = list_any (is_choice_of release.name d p) choices

-- of a release and another one, if there is one, the one that was opened first
abbrev pub sooner : ReleaseRow → Option ReleaseRow → Option ReleaseRow
sooner release None = Some release
sooner release (Some other) = if nat_lt other.place release.place then Some other else Some release

-- of some releases, the one that was opened first
abbrev pub first_opened : List ReleaseRow → Option ReleaseRow
first_opened [] = None
first_opened (release ∷ releases) = sooner release (first_opened releases)

-- the first opened release that holds a choice for a package
abbrev pub holder : List ReleaseRow → List ChoiceRow → ℕ → List ℕ → Option (List ℕ)
holder releases choices d p = option_map (λ release. release.name)
    (first_opened (filter (holds choices d p) releases))
