-- What the bill of a release is made from, over looked-up rows.
use Rattle.std.specs.Prelude.{◌≡◌, ℕ, ◌+◌, Bool, true, false, List, [], ◌∷◌, ◌++◌, map, Option}
use Rattle.std.specs.List.{list_any}
use Rattle.std.specs.Option.{option_map_or, option_and_then}
use Rattle.std.specs.Ordering.{nat_cmp, is_eq, on, then_cmp}
use Rattle.std.specs.Cmp.Lexicographic.{slice_cmp}
use Rattle.std.specs.BTreeSet.{BTreeSet}
use Rattle.std.specs.Vec.Iter.{into_iter_items}
use Rattle.std.specs.declared.vec.IntoIter.{IntoIter}
use Rattle.std.specs.declared.alloc.Global.{Global}
use Rattle.std.specs.BTreeSet as sorted
use denote.Ref.{Bor}
use Rattle.std.specs.declared.cmp.Ordering.{Ordering}
use Rattle.desk_model.specs.Bills.{first_uses, is_same_text, texts_named}
use Rattle.desk_model.specs.Readings.{Readings}
use Rattle.desk_model.specs.declared.bill.BillLine.{BillLine}
use Rattle.desk_model.specs.declared.bill.TextOf.{TextOf}
use Rattle.desk_model.specs.declared.bill.TextOf.TheVariants.{Licence, Reference}
use Rattle.desk_model.specs.declared.reading.LicenceText.{LicenceText}
use Rattle.desk_model.specs.Keys.{is_frozen_of}
use Rattle.desk_model.specs.declared.row.FrozenRow.{FrozenRow}
use Rattle.desk_model.specs.declared.row.PackageRow.{PackageRow}
use Rattle.desk_bills.specs.declared.frozen.ByPackage.{ByPackage}
use Rattle.desk_bills.specs.declared.texts.Named.{Named}
use Rattle.desk_bills.specs.declared.texts.TextKey.{TextKey}

-- a frozen row is a term of the package that is looked for
abbrev pub is_of : ByPackage → FrozenRow → Bool
is_of key row = is_frozen_of key.release.now key.document key.id.now row

-- the text of a term's reference, or else of its licence
abbrev pub main_text : Readings → ℕ → List ℕ → TextOf
main_text w d term = option_map_or (λ reference. Reference d reference) (w.reference term)
    (Licence (w.licence_id term))

-- it is the text of a licence
abbrev pub is_licence : TextOf → Bool
is_licence (Licence id) = true
is_licence (Reference d reference) = false

-- each of these texts is among those
abbrev pub AreAmong : List TextOf → List TextOf → Type 0
AreAmong xs texts = (x : TextOf) → list_any (is_same_text x) texts ≡ true
    → list_any (is_same_text x) xs ≡ true

-- a term is among those that were met
abbrev pub is_met : Named → Bor (List ℕ) → Bool
is_met named term = sorted.contains_by (λ k. slice_cmp nat_cmp term.now k.now) named.met

-- these are the texts that terms named, as far as first uses matter
pub record AreNamed (w : Readings) (xs : List TextOf) (named : Named) : Type 0 where
  pub uses : first_uses named.texts.items ≡ first_uses xs
  pub same : (x : TextOf) → list_any (is_same_text x) named.texts.items
      ≡ list_any (is_same_text x) xs
  -- a term that was met names only these, in any document
  pub met : (term : Bor (List ℕ)) → is_met named term ≡ true → (d : ℕ)
      → AreAmong xs (texts_named w d term.now)

-- these texts are named too
abbrev pub Adds : Readings → List TextOf → Named → Named → Type 0
Adds w texts old new = (xs : List TextOf) → AreNamed w xs old → AreNamed w (xs ++ texts) new

-- what identifies a text
abbrev pub text_key : TextOf → TextKey
text_key (Licence id) = record { document = 0; name = id }
text_key (Reference d reference) = record { document = d + 1; name = reference }

-- licences and exceptions by id, then references by document and name
abbrev pub key_order : TextKey → TextKey → Ordering
key_order = then_cmp (on (λ k. k.document) nat_cmp) (on (λ k. k.name) (slice_cmp nat_cmp))

-- the set has the keys of these texts, and no others
abbrev pub HasTexts : List TextOf → BTreeSet TextKey → Type 0
HasTexts texts seen = (key : TextKey)
    → sorted.contains_by (key_order key) seen
    ≡ list_any (λ text. is_eq (key_order key (text_key text))) texts

-- the text of a licence or an exception in a catalogue, if there is one
abbrev pub licence_found : Readings → Option (List ℕ) → List ℕ → Option LicenceText
licence_found w catalogue id = option_and_then (λ text. w.licence_text text id) catalogue

-- the id of a licence or an exception that a text is of
abbrev pub licence_ids : TextOf → List (List ℕ)
licence_ids (Licence id) = id ∷ []
licence_ids (Reference d reference) = []

-- the texts of these ids in a catalogue are what remains of those that were found
abbrev pub AreLeft : Readings → Option (List ℕ) → List (List ℕ)
    → IntoIter (Option LicenceText) Global → Type 0
AreLeft w catalogue ids left = into_iter_items left ≡ map (licence_found w catalogue) ids

-- the line of a package with the rules for its terms
abbrev pub line_with : List (List ℕ) → PackageRow → BillLine
line_with rules p = record {
  name = p.name;
  version = p.version;
  rules = rules;
  copyright = p.copyright;
}
