-- What the desk keeps of a catalogue: the forms and the rules, from which it makes its rows. The
-- texts of licences are for reports.
use Rattle.std.specs.Prelude.{◌≡◌, ℕ, List, Option, Some, None, Result, Ok, Err, map, slice_get}
use Rattle.std.specs.Option.{option_map, option_and_then}
use Rattle.std.specs.Result.{result_ok}
use Rattle.std.specs.Ordering.{nat_cmp}
use Rattle.std.specs.Cmp.Lexicographic.{slice_cmp}
use Rattle.std.specs.BTreeMap.{BTreeMap, get_by}
use Rattle.desk_base.specs.Folded.{folded}
use Rattle.desk_model.specs.declared.reading.Catalogue.{Catalogue}
use Rattle.desk_model.specs.declared.reading.LicenceText.{LicenceText}
use Rattle.desk_model.specs.declared.refusal.CatalogueFault.{CatalogueFault}
use Rattle.desk_catalogue.specs.Lookup.{text_for}
use Rattle.desk_catalogue.specs.Reading.{catalogue_of}
use Rattle.desk_catalogue.specs.declared.catalogue.Catalogue.{Catalogue as WholeCatalogue}
use Rattle.desk_catalogue.specs.declared.catalogue.LicenceText.{LicenceText as WholeText}
use Rattle.desk_texts.specs.declared.licences.Taken.{Taken}

-- the forms and the rules of a catalogue; its fault stays the same
abbrev pub kept_catalogue : Result WholeCatalogue CatalogueFault → Result Catalogue CatalogueFault
kept_catalogue (Ok catalogue) = Ok (record { forms = catalogue.forms; rules = catalogue.rules })
kept_catalogue (Err fault) = Err fault

-- a text as it is kept
abbrev pub kept_text : WholeText → LicenceText
kept_text text = record { title = text.licence; body = text.body }

-- the text that a catalogue has for a licence or an exception, by its id in any case (SPDX 2.3,
-- Annex D.2)
abbrev pub found_text : List ℕ → WholeCatalogue → Option LicenceText
found_text id catalogue = option_map kept_text (text_for catalogue id)

-- the same, if there is a catalogue
abbrev pub licence_text_in : Result WholeCatalogue CatalogueFault → List ℕ → Option LicenceText
licence_text_in read id = option_and_then (found_text id) (result_ok read)

-- the text that a map has for an id in any case; the map's ids are in lower case
abbrev pub text_in : BTreeMap (List ℕ) LicenceText → List ℕ → Option LicenceText
text_in texts id = get_by (slice_cmp nat_cmp (folded id)) texts

-- the place that a map has for an id in any case; the map's ids are in lower case
abbrev pub place_in : BTreeMap (List ℕ) ℕ → List ℕ → Option ℕ
place_in places id = get_by (slice_cmp nat_cmp (folded id)) places

-- These texts were taken for these ids: the text of an id that has a place is there, and the texts
-- of all other ids are left.
pub record AreTaken (texts : List ℕ → Option LicenceText) (ids : List (List ℕ))
    (taken : Taken) : Type 0 where
  pub found : taken.found ≡ map texts ids
  pub here : (id : List ℕ) (place : ℕ) → place_in taken.places id ≡ Some place
      → slice_get taken.found place ≡ Some (texts id)
  pub left : (id : List ℕ) → place_in taken.places id ≡ None → text_in taken.left id ≡ texts id
