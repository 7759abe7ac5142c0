-- Texts of licences by their ids. Among those with the same id, in any case, the first is kept.
use Rattle.std.proofs.Common.{◌≡◌, ◌∙◌, ℕ, Bool, true, false, cond, List, [], ◌∷◌, ◌++◌, Option}
use Rattle.std.proofs.Common.{None, Some, sym, ap, refl}
use Rattle.std.specs.Prelude.{find}
use Rattle.std.specs.BTreeMap.{BTreeMap, IsEmpty, UpdatesBy}
use Rattle.std.specs.Cmp.Lexicographic.{slice_cmp}
use Rattle.std.specs.Map.{lookup}
use Rattle.std.specs.Option.{option_map, option_or}
use Rattle.std.specs.Ordering.{is_eq, nat_cmp}
use Rattle.std.specs.Str.{bytes_eq}
use Rattle.std.proofs.lemmas.List.Folds.{find-append}
use Rattle.std.proofs.lemmas.Map.Text.{is_eq-slice_cmp}
use Rattle.desk_base.specs.Folded.{folded}
use Rattle.desk_catalogue.specs.Kept.{is_text_of}
use Rattle.desk_catalogue.specs.declared.catalogue.LicenceText.{LicenceText as WholeText}
use Rattle.desk_model.specs.declared.reading.LicenceText.{LicenceText}
use Rattle.desk_texts.specs.Catalogues.{kept_text, text_in}

-- the text that some have for an id or, if they have none, the one of a map
abbrev pub text_among : List WholeText → BTreeMap (List ℕ) LicenceText → List ℕ → Option LicenceText
text_among texts map id = option_or (option_map kept_text (find (is_text_of id) texts))
    (text_in map id)

turned : (a : Option WholeText) (b : Bool) (x : WholeText) (m : Option LicenceText)
    → option_or (option_map kept_text a) (cond b (Some (kept_text x)) m)
    ≡ option_or (option_map kept_text (option_or a (cond b (Some x) None))) m
turned None true x m = refl
turned None false x m = refl
turned (Some y) b x m = refl

-- the last of some is put into the map
pub last_put : (texts front : List WholeText) (x : WholeText)
    (old new : BTreeMap (List ℕ) LicenceText) (key : List ℕ) → key ≡ folded x.licence
    → texts ≡ front ++ x ∷ []
    → UpdatesBy (slice_cmp nat_cmp) (slice_cmp nat_cmp key) old new (Some (kept_text x))
    → (id : List ℕ) → text_among front new id ≡ text_among texts old id
last_put texts front x old new key is split updates id =
    let here : text_in new id ≡ cond (is_text_of id x) (Some (kept_text x)) (text_in old id) =
    updates.0 (folded id)
    ∙ ap (λ b. cond b (Some (kept_text x)) (text_in old id))
    (is_eq-slice_cmp key (folded id) ∙ ap (λ k. bytes_eq k (folded id)) is) in
    ap (option_or (option_map kept_text (find (is_text_of id) front))) here
    ∙ turned (find (is_text_of id) front) (is_text_of id x) x (text_in old id)
    ∙ ap (λ o. option_or (option_map kept_text o) (text_in old id))
    (sym (find-append (is_text_of id) front (x ∷ [])))
    ∙ ap (λ l. text_among l old id) (sym split)

or_none : (a : Option LicenceText) → option_or a None ≡ a
or_none None = refl
or_none (Some x) = refl

-- an empty map has no text
pub none_put : (texts : List WholeText) (map : BTreeMap (List ℕ) LicenceText) → IsEmpty map
    → (id : List ℕ) → text_among texts map id ≡ option_map kept_text (find (is_text_of id) texts)
none_put texts map empty id =
    ap (λ entries. option_or (option_map kept_text (find (is_text_of id) texts))
    (lookup (λ k. is_eq (slice_cmp nat_cmp (folded id) k)) entries)) empty
    ∙ or_none (option_map kept_text (find (is_text_of id) texts))

pub none_in : (map : BTreeMap (List ℕ) LicenceText) → IsEmpty map → (id : List ℕ)
    → text_in map id ≡ None
none_in map empty id = ap (λ entries. lookup (λ k. is_eq (slice_cmp nat_cmp (folded id) k)) entries)
    empty
