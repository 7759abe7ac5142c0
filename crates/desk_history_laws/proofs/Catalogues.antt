-- The catalogues are the texts that were loaded.
use Rattle.std.proofs.Common.{◌≡◌, ℕ, ◌+◌, List, [], ◌∷◌, ◌++◌, length, map, refl, ap, ◌∙◌, sym}
use Rattle.std.specs.Prelude.{filter, is_some}
use Rattle.std.specs.List.{enumerate_from, flat_map}
use Rattle.std.specs.Option.{option_and_then}
use Rattle.std.specs.Result.{result_ok}
use Rattle.desk_model.specs.Lists.{latest}
use Rattle.desk_model.specs.Readings.{Readings}
use Rattle.desk_model.specs.History.{revisions, loaded, in_force, rules_in, rule_rows}
use Rattle.desk_model.specs.Keys.{is_rule_of}
use Rattle.desk_model.specs.Answers.{IsHistory, loading}
use Rattle.desk_model.specs.declared.row.CatalogueRow.{CatalogueRow}
use Rattle.desk_model.specs.declared.command.Command.{Command}
use Rattle.desk_model.specs.declared.command.Command.TheVariants.{LoadCatalogue}
use Rattle.desk_history.specs.FromTables.{rule_of}
use Rattle.desk_history.proofs.Lookups.{rules-found}
use Rattle.desk_history_laws.specs.Filters.{given, last_given, revision_row, rules_of}
use Rattle.desk_history_laws.proofs.Given.{given-cons, given_nothing, latest-last, rows-push, length-rows}
use Rattle.desk_history_laws.proofs.Loads.{was_read}
use Rattle.desk_history_laws.proofs.Numbered.{flat_map-push}

abbrev rows : List Command → List CatalogueRow
rows h = map revision_row (enumerate_from 1 (given loaded h))

load_row : (text : List ℕ) (h : List Command) → revisions h ≡ rows h
    → revisions h ++ record { revision = length (revisions h) + 1; body = text } ∷ []
    ≡ map revision_row (enumerate_from 1 (given loaded h ++ text ∷ []))
load_row text h e =
    ap (λ rs. rs ++ record { revision = length rs + 1; body = text } ∷ []) e
    ∙ (ap (λ k. rows h ++ record { revision = k + 1; body = text } ∷ [])
    (length-rows revision_row 1 (given loaded h))
    ∙ sym (rows-push revision_row (given loaded h) text))

pub revisions-loads : (h : List Command) → revisions h ≡ rows h
revisions-loads [] = refl
revisions-loads (LoadCatalogue text ∷ h) =
    load_row text h (revisions-loads h)
    ∙ ap (λ (texts : List (List ℕ)). map revision_row (enumerate_from 1 texts))
    (sym (given-cons loaded (LoadCatalogue text) h))
revisions-loads (c ∷ h) = revisions-loads h
    ∙ ap (λ (texts : List (List ℕ)). map revision_row (enumerate_from 1 texts))
    (sym (given_nothing loaded c h refl))

pub rules-revisions : (w : Readings) (h : List Command)
    → rule_rows w h ≡ flat_map (rules_of w) (revisions h)
rules-revisions w [] = refl
rules-revisions w (LoadCatalogue text ∷ h) =
    let row : CatalogueRow = record { revision = length (revisions h) + 1; body = text } in
    ap (λ rs. rs ++ rules_of w row) (rules-revisions w h)
    ∙ sym (flat_map-push (rules_of w) (revisions h) row)
rules-revisions w (_ ∷ h) = rules-revisions w h

pub last-load : (w : Readings) (h : List Command)
    → in_force w h ≡ option_and_then (λ text. result_ok (w.catalogue text)) (last_given loaded h)
last-load w h = ap (option_and_then (λ text. result_ok (w.catalogue text))) (latest-last loaded h)

-- a text that was loaded is a catalogue

some-latest : (w : Readings) (h : List Command) → IsHistory w h
    → is_some (in_force w h) ≡ is_some (latest loaded h)
some-latest w [] is = refl
some-latest w (LoadCatalogue text ∷ h) is = was_read (w.catalogue text) (loading h) is.0
some-latest w (_ ∷ h) is = some-latest w h is.1

pub some-load : (w : Readings) (h : List Command) → IsHistory w h
    → is_some (in_force w h) ≡ is_some (last_given loaded h)
some-load w h is = some-latest w h is ∙ ap is_some (latest-last loaded h)

pub rules-listed : (w : Readings) (h : List Command)
    → rules_in (in_force w h) ≡ map rule_of
    (filter (is_rule_of (length (given loaded h))) (rule_rows w h))
rules-listed w h =
    sym (rules-found w h)
    ∙ ap (λ (n : ℕ). map rule_of (filter (is_rule_of n) (rule_rows w h)))
    (ap length (revisions-loads h) ∙ length-rows revision_row 1 (given loaded h))
