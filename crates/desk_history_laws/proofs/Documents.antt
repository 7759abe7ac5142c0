-- The documents are those that were imported.
use Rattle.std.proofs.Common.{◌≡◌, ℕ, ◌+◌, List, [], ◌∷◌, ◌++◌, length, map, refl, ap, ◌∙◌, sym}
use Rattle.std.specs.List.{enumerate_from, flat_map}
use Rattle.std.specs.Result.{result_ok}
use Rattle.desk_base.specs.declared.profile.Profile.{Profile}
use Rattle.desk_model.specs.Readings.{Readings}
use Rattle.desk_model.specs.History.{documents, packages, references, namespace_in}
use Rattle.desk_model.specs.declared.row.DocumentRow.{DocumentRow}
use Rattle.desk_model.specs.declared.command.Command.{Command}
use Rattle.desk_model.specs.declared.command.Command.TheVariants.{Import}
use Rattle.desk_history_laws.specs.Filters.{given, imported, document_row, packages_of, references_of}
use Rattle.desk_history_laws.proofs.Given.{given-cons, given_nothing, rows-push, length-rows}
use Rattle.desk_history_laws.proofs.Numbered.{flat_map-push}

abbrev rows : Readings → List Command → List DocumentRow
rows w h = map (document_row w) (enumerate_from 1 (given imported h))

abbrev next_row : Readings → List ℕ → Profile → List DocumentRow → DocumentRow
next_row w bytes profile before = record {
  number = length before + 1;
  namespace = namespace_in (result_ok (w.document bytes));
  bytes = bytes;
  profile = profile;
}

import_row : (w : Readings) (bytes : List ℕ) (profile : Profile) (h : List Command)
    → documents w h ≡ rows w h
    → documents w h ++ next_row w bytes profile (documents w h) ∷ []
    ≡ map (document_row w) (enumerate_from 1 (given imported h ++ (bytes, profile) ∷ []))
import_row w bytes profile h e =
    ap (λ rs. rs ++ next_row w bytes profile rs ∷ []) e
    ∙ (ap (λ k. rows w h ++ document_row w (k + 1, (bytes, profile)) ∷ [])
    (length-rows (document_row w) 1 (given imported h))
    ∙ sym (rows-push (document_row w) (given imported h) (bytes, profile)))

pub documents-imports : (w : Readings) (h : List Command) → documents w h ≡ rows w h
documents-imports w [] = refl
documents-imports w (Import bytes profile ∷ h) =
    import_row w bytes profile h (documents-imports w h)
    ∙ ap (λ (read : List (List ℕ × Profile)). map (document_row w) (enumerate_from 1 read))
    (sym (given-cons imported (Import bytes profile) h))
documents-imports w (c ∷ h) = documents-imports w h
    ∙ ap (λ (read : List (List ℕ × Profile)). map (document_row w) (enumerate_from 1 read))
    (sym (given_nothing imported c h refl))

pub packages-documents : (w : Readings) (h : List Command)
    → packages w h ≡ flat_map (packages_of w) (documents w h)
packages-documents w [] = refl
packages-documents w (Import bytes profile ∷ h) =
    ap (λ rs. rs ++ packages_of w (next_row w bytes profile (documents w h)))
    (packages-documents w h)
    ∙ sym (flat_map-push (packages_of w) (documents w h) (next_row w bytes profile (documents w h)))
packages-documents w (_ ∷ h) = packages-documents w h

pub references-documents : (w : Readings) (h : List Command)
    → references w h ≡ flat_map (references_of w) (documents w h)
references-documents w [] = refl
references-documents w (Import bytes profile ∷ h) =
    ap (λ rs. rs ++ references_of w (next_row w bytes profile (documents w h)))
    (references-documents w h)
    ∙ sym (flat_map-push (references_of w) (documents w h)
    (next_row w bytes profile (documents w h)))
references-documents w (_ ∷ h) = references-documents w h
