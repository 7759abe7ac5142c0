-- What the steps of a conclusion and of an adoption have found.
use Rattle.std.specs.Prelude.{◌≡◌, ◌||◌, ℕ, true, List, [], ◌∷◌, nat_lt, find, is_some, Option}
use Rattle.std.specs.Prelude.{Some, None, if◌then◌else◌}
use Rattle.std.specs.Option.{option_map}
use Rattle.desk_base.specs.Limits as most
use Rattle.desk_model.specs.Readings.{Readings}
use Rattle.desk_model.specs.Keys.{is_document, is_package}
use Rattle.desk_model.specs.Conclusions.{is_reference, is_plain, licence_for}
use Rattle.desk_model.specs.Tables.{Tables}
use Rattle.desk_model.specs.Answers.{refused_first, unless}
use Rattle.desk_history.specs.FromTables.{adoption_count, holder_found}
use Rattle.desk_model.specs.declared.row.AdoptionRow.{AdoptionRow}
use Rattle.desk_model.specs.declared.refusal.Limit.TheVariants as limit
use Rattle.desk_model.specs.declared.refusal.Refusal.TheVariants as why
use Rattle.desk_model.specs.declared.command.Answer.{Answer}
use Rattle.desk_model.specs.declared.command.Answer.TheVariants as answered
use Rattle.desk_preparing.specs.declared.conclusion.AdoptionRead.{AdoptionRead}
use Rattle.desk_preparing.specs.declared.conclusion.AdoptionRead.TheVariants.{Pair, BadTerm}

-- of a text that is an expression
abbrev pub conclude_known : Tables → ℕ → List ℕ → Answer
conclude_known t d p = refused_first (
    unless (is_some (find (is_document d) t.document)) why.UnknownDocument
    ∷ unless (is_some (find (is_package d p) t.packages)) why.UnknownPackage
    ∷ option_map (λ r. why.Chosen r) (holder_found t d p)
    ∷ []) answered.Done

-- and of a document that was found
abbrev pub conclude_in : Tables → ℕ → List ℕ → Answer
conclude_in t d p = refused_first (
    unless (is_some (find (is_package d p) t.packages)) why.UnknownPackage
    ∷ option_map (λ r. why.Chosen r) (holder_found t d p)
    ∷ []) answered.Done

-- the reference alone, and the licence alone, that a text spells
abbrev pub reference_alone : Readings → List ℕ → Option (List ℕ)
reference_alone w text = if is_reference w text then w.term text else None

-- the same for a licence, which has neither plus nor exception
abbrev pub licence_alone : Readings → List ℕ → Option (List ℕ)
licence_alone w text = if is_plain w text then w.term text else None

-- the row of an adoption, from two terms that were read
abbrev pub adopted_row : ℕ → List ℕ → List ℕ → AdoptionRow
adopted_row d reference licence = record { document = d; reference = reference; licence = licence }

-- both texts were read, or the first that isn't what it should be
abbrev pub AreAdopted : Readings → List ℕ → List ℕ → AdoptionRead → Type 0
AreAdopted w r l (Pair reference licence) =
    (is_reference w r ≡ true) × (is_plain w l ≡ true) × (w.term r ≡ Some reference)
    × (w.term l ≡ Some licence)
AreAdopted w r l (BadTerm i) =
    refused_first (unless (is_reference w r) (why.BadTerm 0) ∷ unless (is_plain w l) (why.BadTerm 1)
    ∷ []) answered.Done ≡ answered.Refused (why.BadTerm i)

-- of a reference and a licence
abbrev pub adopt_known : Tables → ℕ → List ℕ → Answer
adopt_known t d reference = refused_first (
    unless (is_some (find (is_document d) t.document)) why.UnknownDocument
    ∷ unless (is_some (licence_for t.adoption d reference)
    || nat_lt (adoption_count t d) most.adoptions) (why.Full limit.Adoptions)
    ∷ []) answered.Done
