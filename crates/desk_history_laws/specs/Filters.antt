-- What a history says by filters and last entries, with its commands in the order in which they
-- were recorded.
use Rattle.std.specs.Prelude.{ℕ, Bool, false, List, [], map, filter, reverse, Option, Some, None}
use Rattle.std.specs.List.{filter_map, last_or}
use Rattle.std.specs.Result.{result_ok}
use Rattle.std.specs.Str.{bytes_eq}
use Rattle.desk_model.specs.Readings.{Readings}
use Rattle.desk_model.specs.History.{rules_in, rule_row, namespace_in, packages_in, references_in}
use Rattle.desk_model.specs.History.{package_row, extracted_row, is_package_of, term_set}
use Rattle.desk_base.specs.declared.profile.Profile.{Profile}
use Rattle.desk_model.specs.declared.row.CatalogueRow.{CatalogueRow}
use Rattle.desk_model.specs.declared.row.RuleRow.{RuleRow}
use Rattle.desk_model.specs.declared.row.DocumentRow.{DocumentRow}
use Rattle.desk_model.specs.declared.row.PackageRow.{PackageRow}
use Rattle.desk_model.specs.declared.row.ExtractedRow.{ExtractedRow}
use Rattle.desk_model.specs.declared.command.Command.{Command}
use Rattle.desk_model.specs.declared.command.Command.TheVariants.{Import, OpenRelease, Choose}
use Rattle.desk_model.specs.declared.command.Command.TheVariants.{Unchoose, Freeze, Withdraw}

-- what the commands give, in the order in which they were recorded
abbrev pub given : {A : Type 0} → (Command → Option A) → List Command → List A
given f h = filter_map f (reverse h)

-- the last of it
abbrev pub last_given : {A : Type 0} → (Command → Option A) → List Command → Option A
last_given f h = last_or None (given f h)

-- Catalogues

-- the row of a numbered catalogue text
abbrev pub revision_row : ℕ × List ℕ → CatalogueRow
revision_row load = record { revision = load.0; body = load.1 }

-- the rules of a revision
abbrev pub rules_of : Readings → CatalogueRow → List RuleRow
rules_of w row = map (rule_row row.revision) (rules_in (result_ok (w.catalogue row.body)))

-- Documents

-- the bytes that an Import brings, and the profile that they are read by
abbrev pub imported : Command → Option (List ℕ × Profile)
imported (Import bytes profile) = Some (bytes, profile)
imported _ = None

-- the row of numbered bytes, with the namespace that they give
abbrev pub document_row : Readings → ℕ × (List ℕ × Profile) → DocumentRow
document_row w read = record {
  number = read.0;
  namespace = namespace_in (result_ok (w.document read.1.0));
  bytes = read.1.0;
  profile = read.1.1;
}

-- the packages of a document, and the references that it defines
abbrev pub packages_of : Readings → DocumentRow → List PackageRow
packages_of w row = map (package_row row.number) (packages_in (result_ok (w.document row.bytes)))

-- its references, each with its extracted text
abbrev pub references_of : Readings → DocumentRow → List ExtractedRow
references_of w row = map (extracted_row row.number)
    (references_in (result_ok (w.document row.bytes)))

-- Releases

-- a command that opens a release, and one that freezes it
abbrev pub opens : List ℕ → Command → Bool
opens r (OpenRelease r' form) = bytes_eq r' r
opens r _ = false

-- a command that freezes the release, on whichever day
abbrev pub freezes : List ℕ → Command → Bool
freezes r (Freeze r' day) = bytes_eq r' r
freezes r _ = false

-- Choices

-- a command that decides what is chosen for a package in a release: a Choose or an Unchoose of it,
-- or a withdrawal of the release
abbrev pub decides : List ℕ → ℕ → List ℕ → Command → Bool
decides r d p (Choose r' d' p' texts) = is_package_of r d p r' d' p'
decides r d p (Unchoose r' d' p') = is_package_of r d p r' d' p'
decides r d p (Withdraw r' day text) = bytes_eq r' r
decides r d p _ = false

-- the last of these
abbrev pub last_decision : List ℕ → ℕ → List ℕ → List Command → Option Command
last_decision r d p h = last_or None (filter (decides r d p) (reverse h))

-- what it leaves: the terms of a Choose, or else none
abbrev pub terms_left : Readings → Option Command → List (List ℕ)
terms_left w (Some (Choose r d p texts)) = term_set w texts
terms_left w _ = []
