-- Laws of the recorded history, in the subject's own words.
use Rattle.std.specs.Prelude.{◌≡◌, ℕ, ◌+◌, ◌<◌, nat_lt, Bool, true, false, List, [], ◌∷◌, ◌++◌}
use Rattle.std.specs.Prelude.{length, map, filter, find, Some, None, Ok, unwrap_or}
use Rattle.std.specs.List.{filter_map, last_or, enumerate_from}
use Rattle.std.specs.Option.{option_map}
use Rattle.std.specs.Ordering.{nat_cmp, on, then_cmp}
use Rattle.std.specs.Cmp.Lexicographic.{slice_cmp}
use Rattle.std.specs.declared.cmp.Ordering.{Ordering}
use Rattle.desk_model.specs.Lists.{IsIn}
use Rattle.desk_model.specs.Readings.{Readings}
use Rattle.desk_model.specs.Keys.{below_by, release_below, attached_order, choice_order, extracted_order}
use Rattle.desk_model.specs.Keys.{frozen_order, conclusion_order, adoption_order, change_below}
use Rattle.desk_model.specs.Keys.{is_package, is_document, is_change_of, package_order, rule_order}
use Rattle.desk_model.specs.Texts.{is_before, sorted_set, text_below}
use Rattle.desk_model.specs.History.{documents, packages, choice, form_of, in_force, rules_in}
use Rattle.desk_model.specs.Conclusions.{adoptions}
use Rattle.desk_model.specs.Answers.{conclusion}
use Rattle.desk_model.specs.Raised.{rule_adopted, shipped, raised, owed_at}
use Rattle.desk_model.specs.Tables.{Tables}
use Rattle.desk_model.specs.declared.reading.Catalogue.{Catalogue}
use Rattle.desk_model.specs.declared.reading.Conclusion.{Conclusion}
use Rattle.desk_model.specs.declared.reading.Document.{Document}
use Rattle.desk_model.specs.declared.reading.Package.{Package}
use Rattle.desk_model.specs.declared.reading.Reference.{Reference}
use Rattle.desk_model.specs.declared.reading.Rule.{Rule}
use Rattle.desk_model.specs.declared.reading.Verdict.TheVariants.{Minimal}
use Rattle.desk_model.specs.declared.row.CatalogueRow.{CatalogueRow}
use Rattle.desk_model.specs.declared.row.DocumentRow.{DocumentRow}
use Rattle.desk_model.specs.declared.row.PackageRow.{PackageRow}
use Rattle.desk_model.specs.declared.row.RuleRow.{RuleRow}
use Rattle.desk_model.specs.declared.row.Owed.{Owed}
use Rattle.desk_model.specs.declared.row.DutyRow.{DutyRow}
use Rattle.desk_model.specs.declared.row.FrozenRow.{FrozenRow}
use Rattle.desk_model.specs.declared.row.ChangeRow.{ChangeRow}
use Rattle.desk_model.specs.States.{state_after}
use Rattle.desk_model.specs.Moves.{moves}
use Rattle.desk_model.specs.declared.row.Move.{Move}
use Rattle.desk_model.specs.declared.state.Word.TheVariants as word
use Rattle.desk_model.specs.declared.command.Command.{Command}
use Rattle.desk_model.specs.declared.command.Command.TheVariants.{Freeze}

-- a choice that was recorded after these commands: the package has a concluded expression, of which
-- the terms are a minimal set
pub record IsMinimalChoice (w : Readings) (before : List Command) (d : ℕ) (p : List ℕ)
    (texts : List (List ℕ)) : Type 0 where
  pub document : DocumentRow
  pub row : PackageRow
  pub concluded : Conclusion
  pub of : find (is_document d) (documents w before) ≡ Some document
  pub has : find (is_package d p) (packages w before) ≡ Some row
  pub concludes : conclusion w before row ≡ Some concluded
  pub minimal : w.verdict concluded.profile concluded.text (filter_map w.term texts) ≡ Minimal

-- terms that are held for a package after these commands: the package has a concluded expression
-- now, of which they are a minimal set
pub record IsHeldMinimal (w : Readings) (h : List Command) (d : ℕ) (p : List ℕ)
    (terms : List (List ℕ)) : Type 0 where
  pub document : DocumentRow
  pub row : PackageRow
  pub concluded : Conclusion
  pub listed : List (List ℕ)
  pub of : find (is_document d) (documents w h) ≡ Some document
  pub has : find (is_package d p) (packages w h) ≡ Some row
  pub concludes : conclusion w h row ≡ Some concluded
  pub set : terms ≡ sorted_set listed
  pub minimal : w.verdict concluded.profile concluded.text listed ≡ Minimal

-- A duty with its number: a freeze of a release is in the history and raises it, and the numbers of
-- what a freeze raises continue after all that the freezes before it raised.
pub record IsNumbered (w : Readings) (h : List Command) (d : ℕ × Owed) : Type 0 where
  pub later : List Command
  pub before : List Command
  pub release : List ℕ
  pub day : List ℕ
  pub split : h ≡ later ++ Freeze release day ∷ before
  pub raises : IsIn d (enumerate_from (1 + length (raised w before)) (owed_at w before release))

-- A term that a release was frozen with: a freeze of the release is in the history, and before it a
-- document that ships the package was attached, the term was held for it, and the catalogue then in
-- force had a rule for the term's adopted form.
pub record IsFrozenTerm (w : Readings) (h : List Command) (f : FrozenRow) : Type 0 where
  pub later : List Command
  pub before : List Command
  pub day : List ℕ
  pub row : PackageRow
  pub rule : Rule
  pub split : h ≡ later ++ Freeze f.release day ∷ before
  pub ships : IsIn row (shipped w before f.release)
  pub document : f.document ≡ row.document
  pub package_id : f.package_id ≡ row.id
  pub chosen : IsIn f.term (choice w before f.release row.document row.id)
  pub ruled : rule_adopted w (adoptions w before) (rules_in (in_force w before))
      (unwrap_or (form_of before f.release) []) row.document f.term ≡ Some rule
  pub spelled : f.rule ≡ rule.spelled

-- no row comes after one that it should precede
abbrev pub Ascends : {A : Type 0} → (A → A → Bool) → List A → Type 0
Ascends below [] = Unit {0}
Ascends below (x ∷ xs) = ((y : _) → IsIn y xs → below y x ≡ false) × Ascends below xs

-- revisions by number
abbrev pub revision_below : CatalogueRow → CatalogueRow → Bool
revision_below a b = nat_lt a.revision b.revision

-- documents by number
abbrev pub document_below : DocumentRow → DocumentRow → Bool
document_below a b = nat_lt a.number b.number

-- duties by number
abbrev pub duty_below : DutyRow → DutyRow → Bool
duty_below a b = nat_lt a.number b.number

-- revisions, documents and duties by number, conclusions by document and package, adoptions by
-- document and reference, releases by name, attached documents by release and number, chosen and
-- frozen terms by release, document, package and term, changes by duty and step
pub record AreSorted (t : Tables) : Type 0 where
  pub catalogue : Ascends revision_below t.catalogue
  pub document : Ascends document_below t.document
  pub conclusion : Ascends (below_by conclusion_order) t.conclusion
  pub adoption : Ascends (below_by adoption_order) t.adoption
  pub releases : Ascends release_below t.releases
  pub attached : Ascends (below_by attached_order) t.attached
  pub choice : Ascends (below_by choice_order) t.choice
  pub frozen : Ascends (below_by frozen_order) t.frozen
  pub duty : Ascends duty_below t.duty
  pub changes : Ascends change_below t.changes

-- no two of these are the same
abbrev pub AreDistinct : {A : Type 0} → List A → Type 0
AreDistinct [] = Unit {0}
AreDistinct (x ∷ xs) = (¬ IsIn x xs) × AreDistinct xs

-- what a duty is owed for: its release, document, package, term and code
abbrev pub key_of : DutyRow → List ℕ × ℕ × List ℕ × List ℕ × List ℕ
key_of duty = (duty.release, duty.document, duty.package_id, duty.term, duty.code)

-- a reading that lists nothing twice: the packages of a document have different ids, and the codes
-- of a rule are different
pub record ListsOnce (w : Readings) : Type 0 where
  pub packages : (bytes : List ℕ) (document : Document) → w.document bytes ≡ Ok document
      → AreDistinct (map (λ p. p.id) document.packages)
  pub codes : (text : List ℕ) (catalogue : Catalogue) (rule : Rule)
      → w.catalogue text ≡ Ok catalogue → IsIn rule catalogue.rules → AreDistinct rule.codes

-- the state of a duty is the one in which the last of its changes left it
abbrev pub IsToldBy : List ChangeRow → DutyRow → Type 0
IsToldBy changes duty = option_map (λ change. state_after change.word)
    (last_or None (filter (is_change_of duty.number) changes)) ≡ Some duty.state

-- the last move of a duty is a waiver whose last day is before this day
pub record IsOver (w : Readings) (h : List Command) (day : List ℕ) (q : ℕ) : Type 0 where
  pub last : Move
  pub before : List Move
  pub end : List ℕ
  pub is : moves w h q ≡ last ∷ before
  pub waives : last.word ≡ word.Waived
  pub until : last.last_day ≡ Some end
  pub over : is_before end day ≡ true

-- each row precedes all that come after it: rows in order, no two of which have the same place
abbrev pub Rises : {A : Type 0} → (A → A → Bool) → List A → Type 0
Rises below [] = Unit {0}
Rises below (x ∷ xs) = ((y : _) → IsIn y xs → below x y ≡ true) × Rises below xs

-- packages and references of a document by id
abbrev pub package_below : Package → Package → Bool
package_below a b = text_below a.id b.id

-- references of a document by id
abbrev pub reference_below : Reference → Reference → Bool
reference_below a b = text_below a.id b.id

-- a reading that lists in order, and nothing twice: the rules of a catalogue, the codes of a rule,
-- the packages and the references of a document
pub record ListsInOrder (w : Readings) : Type 0 where
  pub rules : (text : List ℕ) (catalogue : Catalogue) → w.catalogue text ≡ Ok catalogue
      → Rises (below_by rule_order) catalogue.rules
  pub codes : (text : List ℕ) (catalogue : Catalogue) (rule : Rule)
      → w.catalogue text ≡ Ok catalogue → IsIn rule catalogue.rules → Rises text_below rule.codes
  pub packages : (bytes : List ℕ) (document : Document) → w.document bytes ≡ Ok document
      → Rises package_below document.packages
  pub references : (bytes : List ℕ) (document : Document) → w.document bytes ≡ Ok document
      → Rises reference_below document.references

-- rules by revision, then by term and form
abbrev pub rule_row_order : RuleRow → RuleRow → Ordering
rule_row_order =
    then_cmp (on (λ row. row.revision) nat_cmp)
    (then_cmp (on (λ row. row.term) (slice_cmp nat_cmp)) (on (λ row. row.form) (slice_cmp nat_cmp)))

-- rules by revision, term and form, packages by document and id, extracted licences by document and
-- reference, no two with one key
pub record AreSortedAsListed (t : Tables) : Type 0 where
  pub rule : Rises (below_by rule_row_order) t.rule
  pub packages : Rises (below_by package_order) t.packages
  pub extracted : Rises (below_by extracted_order) t.extracted

-- what one release owes, by document, package, term and code
abbrev pub owed_order : Owed → Owed → Ordering
owed_order =
    then_cmp (on (λ owed. owed.document) nat_cmp)
    (then_cmp (on (λ owed. owed.package_id) (slice_cmp nat_cmp))
    (then_cmp (on (λ owed. owed.term) (slice_cmp nat_cmp))
    (on (λ owed. owed.code) (slice_cmp nat_cmp))))

-- the duties of one release, by document, package, term and code
abbrev pub duty_order : DutyRow → DutyRow → Ordering
duty_order =
    then_cmp (on (λ duty. duty.document) nat_cmp)
    (then_cmp (on (λ duty. duty.package_id) (slice_cmp nat_cmp))
    (then_cmp (on (λ duty. duty.term) (slice_cmp nat_cmp))
    (on (λ duty. duty.code) (slice_cmp nat_cmp))))

-- of two duties of one release the one with the smaller number comes first
abbrev pub AreNumberedInOrder : List DutyRow → Type 0
AreNumberedInOrder duties = (a b : DutyRow) → IsIn a duties → IsIn b duties → a.release ≡ b.release
    → a.number < b.number → below_by duty_order a b ≡ true

-- A duty with its number: a freeze of its release is in the history and raises it, and its number
-- is one more than the number of duties that the freezes before it raised or that come before it in
-- its own freeze.
pub record IsCounted (w : Readings) (h : List Command) (d : ℕ × Owed) : Type 0 where
  pub later : List Command
  pub before : List Command
  pub day : List ℕ
  pub split : h ≡ later ++ Freeze d.1.release day ∷ before
  pub raises : IsIn d.1 (owed_at w before d.1.release)
  pub number : d.0 ≡ length (raised w before)
      + length (filter (λ owed. below_by owed_order owed d.1) (owed_at w before d.1.release)) + 1
