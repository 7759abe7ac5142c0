-- The catalogue in force is the text of the last revision.
use Rattle.std.proofs.Common.{◌≡◌, ◌<◌, ℕ, ◌+◌, Bool, true, false, List, [], ◌∷◌, ◌++◌, length}
use Rattle.std.proofs.Common.{Option, None, refl, sym, ap, ◌∙◌, arith, find}
use Rattle.std.specs.Prelude.{◌==◌}
use Rattle.std.specs.Option.{option_map, option_and_then}
use Rattle.std.specs.Result.{result_ok}
use Rattle.std.proofs.lemmas.Bool.Decides.{nat_tests}
use Rattle.std.proofs.lemmas.List.{length_push}
use Rattle.desk_model.specs.History.{revisions, loaded, forms_in}
use Rattle.desk_model.specs.Lists.{latest}
use Rattle.desk_model.specs.Readings.{Readings}
use Rattle.desk_model.specs.Tables.{Tables, tables}
use Rattle.desk_model.specs.declared.row.CatalogueRow.{CatalogueRow}
use Rattle.desk_model.specs.declared.command.Command.{Command}
use Rattle.desk_model.specs.declared.command.Command.TheVariants.{LoadCatalogue}
use Rattle.desk_sql_layout.specs.Held.{known_of}
use Rattle.desk_beside.specs.Beside.{IsBeside, body_of, forms_by}
use Rattle.desk_beside.specs.declared.beside.Beside.{Beside}
use Rattle.desk_model.specs.Keys.{is_revision}
use Rattle.desk_store.specs.Adopting.{HasForms}
use Rattle.desk_store.specs.Counting.{known_by}
use Rattle.desk_history_laws.proofs.Billed.{find_behind, no_revision}
use Rattle.desk_texts.specs.Right.{AreRight}

abbrev row_of : ℕ → List ℕ → CatalogueRow
row_of n text = record { revision = n; body = text }

-- the revision whose number is the number of revisions has the text that was loaded last
last_body : (h : List Command) (n : ℕ) → length (revisions h) ≡ n
    → option_map (λ row. row.body) (find (is_revision n) (revisions h)) ≡ latest loaded h
last_body [] n is = refl
last_body (LoadCatalogue text ∷ h) n is =
    let last = row_of (length (revisions h) + 1) text in
    let long : length (revisions h ++ last ∷ []) ≡ length (revisions h) + 1 =
    length_push (revisions h) last in
    let before : length (revisions h) < n = omega (arith, long) in
    let same : (length (revisions h) + 1 == n) ≡ true = grind (arith, nat_tests, long) in
    ap (option_map (λ row. row.body))
    (find_behind (is_revision n) (revisions h) (last ∷ []) (no_revision h n before)) ∙ rw same refl
last_body (_ ∷ h) n is = last_body h n is

-- what is kept beside tables is what a store knows of them
pub known : (w : Readings) → AreRight w → (t : Tables) (kept : Beside) → IsBeside kept t
    → HasForms w t → known_of t ≡ known_by kept.counts kept.forms
known w right t kept it are =
    let counts = it.counts in
    let in_force : t.forms ≡ kept.forms = are
    ∙ (ap (forms_by w t) counts.revisions ∙ sym (it.forms w right)) in
    rw (counts.revisions, counts.documents, counts.releases, counts.duties, in_force) refl

-- the forms of the tables of a history are those of the catalogue that was loaded last
pub history_forms : (w : Readings) (h : List Command) → HasForms w (tables w h)
history_forms w h = ap (λ b. forms_in (option_and_then (λ text. result_ok (w.catalogue text)) b))
    (sym (last_body h (length (revisions h)) refl))
