-- The recorded history, read by filters and last entries. Its newest command comes first.
use Rattle.std.specs.Prelude.{ℕ, ◌+◌, ◌==◌, Bool, ◌&&◌, List, [], ◌∷◌, ◌++◌, length, filter, map}
use Rattle.std.specs.Prelude.{find, Option, Some, None, unwrap_or, if◌then◌else◌}
use Rattle.std.specs.List.{filter_map}
use Rattle.std.specs.Option.{option_map_or, option_and_then}
use Rattle.std.specs.Result.{result_ok}
use Rattle.std.specs.Str.{bytes_eq}
use Rattle.desk_model.specs.Lists.{latest, in_order}
use Rattle.desk_model.specs.Texts.{text_below, sorted_set}
use Rattle.desk_model.specs.Readings.{Readings}
use Rattle.desk_model.specs.Keys.{below_by, attached_order, is_rule, is_attached_to}
use Rattle.desk_model.specs.declared.reading.Catalogue.{Catalogue}
use Rattle.desk_model.specs.declared.reading.Rule.{Rule}
use Rattle.desk_model.specs.declared.reading.Document.{Document}
use Rattle.desk_model.specs.declared.reading.Package.{Package}
use Rattle.desk_model.specs.declared.reading.Reference.{Reference}
use Rattle.desk_base.specs.declared.profile.Profile.{Profile}
use Rattle.desk_base.specs.declared.profile.Profile.TheVariants.{Capitals}
use Rattle.desk_model.specs.declared.row.CatalogueRow.{CatalogueRow}
use Rattle.desk_model.specs.declared.row.RuleRow.{RuleRow}
use Rattle.desk_model.specs.declared.row.DocumentRow.{DocumentRow}
use Rattle.desk_model.specs.declared.row.PackageRow.{PackageRow}
use Rattle.desk_model.specs.declared.row.ExtractedRow.{ExtractedRow}
use Rattle.desk_model.specs.declared.row.AttachedRow.{AttachedRow}
use Rattle.desk_model.specs.declared.state.ReleaseState.{ReleaseState}
use Rattle.desk_model.specs.declared.state.ReleaseState.TheVariants.{IsOpen, Frozen, Withdrawn}
use Rattle.desk_model.specs.declared.command.Command.{Command}
use Rattle.desk_model.specs.declared.command.Command.TheVariants.{LoadCatalogue, Import}
use Rattle.desk_model.specs.declared.command.Command.TheVariants.{OpenRelease, Attach, Choose}
use Rattle.desk_model.specs.declared.command.Command.TheVariants.{Unchoose, Freeze, Withdraw}

-- Catalogues

-- the revisions, numbered by their loads from 1
abbrev pub revisions : List Command → List CatalogueRow
revisions [] = []
revisions (LoadCatalogue text ∷ h) = revisions h
    ++ record { revision = length (revisions h) + 1; body = text } ∷ []
revisions (_ ∷ h) = revisions h

-- the text that a LoadCatalogue loads
abbrev pub loaded : Command → Option (List ℕ)
loaded (LoadCatalogue text) = Some text
loaded _ = None

-- the catalogue in force: the last one loaded
abbrev pub in_force : Readings → List Command → Option Catalogue
in_force w h = option_and_then (λ text. result_ok (w.catalogue text)) (latest loaded h)

-- the rules of a catalogue; none if there is no catalogue
abbrev pub rules_in : Option Catalogue → List Rule
rules_in catalogue = option_map_or (λ c. c.rules) catalogue []

-- the forms of a catalogue; none if there is no catalogue, so that no release can be opened
abbrev pub forms_in : Option Catalogue → List (List ℕ)
forms_in catalogue = option_map_or (λ c. c.forms) catalogue []

-- a rule, with the revision that has it
abbrev pub rule_row : ℕ → Rule → RuleRow
rule_row revision rule = record {
  revision = revision;
  term = rule.term;
  form = rule.form;
  spelled = rule.spelled;
  codes = rule.codes;
}

-- the rules of all revisions
abbrev pub rule_rows : Readings → List Command → List RuleRow
rule_rows w [] = []
rule_rows w (LoadCatalogue text ∷ h) = rule_rows w h
    ++ map (rule_row (length (revisions h) + 1)) (rules_in (result_ok (w.catalogue text)))
rule_rows w (_ ∷ h) = rule_rows w h

-- the rule for a term and a form
abbrev pub rule_for : List Rule → List ℕ → List ℕ → Option Rule
rule_for rules term form = find (is_rule term form) rules

-- Documents

-- the namespace of a document that was read
abbrev pub namespace_in : Option Document → List ℕ
namespace_in document = option_map_or (λ d. d.namespace) document []

-- the packages of a document that was read
abbrev pub packages_in : Option Document → List Package
packages_in document = option_map_or (λ d. d.packages) document []

-- the licences that a document defines by its own references (SPDX 2.3, clause 10)
abbrev pub references_in : Option Document → List Reference
references_in document = option_map_or (λ d. d.references) document []

-- the documents, numbered by their imports from 1
abbrev pub documents : Readings → List Command → List DocumentRow
documents w [] = []
documents w (Import bytes profile ∷ h) =
    documents w h ++ record {
      number = length (documents w h) + 1;
      namespace = namespace_in (result_ok (w.document bytes));
      bytes = bytes;
      profile = profile;
    } ∷ []
documents w (_ ∷ h) = documents w h

-- a package, with the number of its document
abbrev pub package_row : ℕ → Package → PackageRow
package_row document p = record {
  document = document;
  id = p.id;
  name = p.name;
  version = p.version;
  concluded = p.concluded;
  copyright = p.copyright;
  shipped = p.shipped;
}

-- a reference and its extracted text, with the number of its document
abbrev pub extracted_row : ℕ → Reference → ExtractedRow
extracted_row document r = record { document = document; reference = r.id; body = r.body }

-- the packages of all documents, by document and id
abbrev pub packages : Readings → List Command → List PackageRow
packages w [] = []
packages w (Import bytes profile ∷ h) = packages w h
    ++ map (package_row (length (documents w h) + 1)) (packages_in (result_ok (w.document bytes)))
packages w (_ ∷ h) = packages w h

-- the references that all documents define
abbrev pub references : Readings → List Command → List ExtractedRow
references w [] = []
references w (Import bytes profile ∷ h) = references w h
    ++ map (extracted_row (length (documents w h) + 1))
    (references_in (result_ok (w.document bytes)))
references w (_ ∷ h) = references w h

-- Conclusions: a package's own field, if it is an expression by its document's profile

-- the profile that a document was imported with
abbrev pub profile_of : Option DocumentRow → Profile
profile_of document = option_map_or (λ row. row.profile) document Capitals

-- a licence field that is an expression; NONE, NOASSERTION and other texts are none
abbrev pub expression_in : Readings → Profile → Option (List ℕ) → Option (List ℕ)
expression_in w profile None = None
expression_in w profile (Some text) = if w.is_expression profile text then Some text else None

-- Releases

-- the name of the release that a command opens
abbrev pub name_opened : Command → Option (List ℕ)
name_opened (OpenRelease r form) = Some r
name_opened _ = None

-- the releases, the last one opened first
abbrev pub opened : List Command → List (List ℕ)
opened h = filter_map name_opened h

-- the releases by name
abbrev pub names : List Command → List (List ℕ)
names h = in_order text_below (opened h)

-- the place of a name in the order of opening, from 1
abbrev pub place_in : List (List ℕ) → List ℕ → ℕ
place_in [] r = 0
place_in (n ∷ ns) r = if bytes_eq n r then length ns + 1 else place_in ns r

-- the form with which a command opens the release
abbrev pub form_given : List ℕ → Command → Option (List ℕ)
form_given r (OpenRelease r' form) = if bytes_eq r' r then Some form else None
form_given r _ = None

-- the form of a release, if it was opened
abbrev pub form_of : List Command → List ℕ → Option (List ℕ)
form_of h r = latest (form_given r) h

-- the state that a command gives the release: a freeze, or a withdrawal
abbrev pub state_given : List ℕ → Command → Option ReleaseState
state_given r (Freeze r' day) = if bytes_eq r' r then Some Frozen else None
state_given r (Withdraw r' day text) = if bytes_eq r' r then Some Withdrawn else None
state_given r _ = None

-- the state of an opened release, by the last command that gives it one
abbrev pub state_of : List Command → List ℕ → ReleaseState
state_of h r = unwrap_or (latest (state_given r) h) IsOpen

-- the revision in force at the freeze of a release, or 0 before
abbrev pub revision_of : List Command → List ℕ → ℕ
revision_of [] r = 0
revision_of (Freeze r' day ∷ h) r = if bytes_eq r' r then length (revisions h) else revision_of h r
revision_of (_ ∷ h) r = revision_of h r

-- Attached documents

-- the release and the document that an Attach ties
abbrev pub attachment : Command → Option AttachedRow
attachment (Attach r d) = Some (record { release = r; document = d })
attachment _ = None

-- all attachments, by release and document
abbrev pub attached : List Command → List AttachedRow
attached h = in_order (below_by attached_order) (filter_map attachment h)

-- those of a release
abbrev pub attached_to : List AttachedRow → List ℕ → List AttachedRow
attached_to rows r = filter (is_attached_to r) rows

-- Choices

-- the set of the terms that texts spell
abbrev pub term_set : Readings → List (List ℕ) → List (List ℕ)
term_set w texts = sorted_set (filter_map w.term texts)

-- two packages in releases are the same: by release, document and id
abbrev pub is_package_of : List ℕ → ℕ → List ℕ → List ℕ → ℕ → List ℕ → Bool
is_package_of r d p r' d' p' = bytes_eq r' r && (d' == d) && bytes_eq p' p

-- the terms that a command leaves chosen for a package of a release: those of a Choose, or none
-- after an Unchoose or the release's withdrawal
abbrev pub terms_given : Readings → List ℕ → ℕ → List ℕ → Command → Option (List (List ℕ))
terms_given w r d p (Choose r' d' p' texts) = if is_package_of r d p r' d' p'
    then Some (term_set w texts) else None
terms_given w r d p (Unchoose r' d' p') = if is_package_of r d p r' d' p' then Some [] else None
terms_given w r d p (Withdraw r' day text) = if bytes_eq r' r then Some [] else None
terms_given w r d p _ = None

-- What is chosen for a package in a release: the terms of the last Choose with no Unchoose and no
-- withdrawal of the release after it, or else none. No recorded choice is empty, since no
-- expression is true under no terms.
abbrev pub choice : Readings → List Command → List ℕ → ℕ → List ℕ → List (List ℕ)
choice w h r d p = unwrap_or (latest (terms_given w r d p) h) []
