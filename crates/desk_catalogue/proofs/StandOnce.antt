-- Forms of a catalogue, and the licences of its texts, each occur once.
use Rattle.std.proofs.Common.{◌≡◌, ℕ, ◌+◌, Bool, true, false, cond, ◌||◌, List, [], ◌∷◌, ◌++◌}
use Rattle.std.proofs.Common.{Option, None, Some, Ok, Err, subst, refl}
use Rattle.std.specs.Prelude.{codes}
use Rattle.std.specs.List.{list_any, AllByRecursion, IsDistinct}
use Rattle.std.specs.Str.{bytes_eq}
use Rattle.desk_base.specs.TextSets.{is_among}
use Rattle.toml.specs.Data.{Data, as_array, get_member}
use Rattle.desk_model.specs.declared.refusal.CataloguePart.TheVariants as part
use Rattle.desk_model.specs.declared.refusal.CatalogueFault.TheVariants.{Twice}
use Rattle.desk_catalogue.specs.declared.catalogue.Catalogue.{Catalogue}
use Rattle.desk_catalogue.specs.declared.catalogue.LicenceText.{LicenceText}
use Rattle.desk_catalogue.specs.Kept.{is_text_of, same_licence}
use Rattle.desk_catalogue.specs.Reading.{each, tables_of, forms_of, forms_listed, forms_once}
use Rattle.desk_catalogue.specs.Reading.{text_at, with_one_text, with_text, licence_texts_of}
use Rattle.desk_catalogue.specs.Reading.{catalogue_of}
use Rattle.desk_catalogue.proofs.OrderLaws.{parts_read, then_by, same_read, each_holds}

module _ {K : Type 0} (eq : K → K → Bool) where
  or_left : (a b : Bool) → (a || b) ≡ false → a ≡ false
  or_left true b e = e
  or_left false b e = refl

  or_right : (a b : Bool) → (a || b) ≡ false → b ≡ false
  or_right true b e = absurd cc
  or_right false b e = e

  all_more : (P : K → Type 0) (xs : List K) (x : K) → AllByRecursion P xs → P x
      → AllByRecursion P (xs ++ (x ∷ []))
  all_more P [] x h p = (p, tt)
  all_more P (k ∷ xs) x h p = (h.0, all_more P xs x h.1 p)

  -- one more at the end, if none before is equal to it
  distinct_more : (xs : List K) (x : K) → IsDistinct eq xs → list_any (λ k. eq k x) xs ≡ false
      → IsDistinct eq (xs ++ (x ∷ []))
  unfolding IsDistinct
  distinct_more [] x h none = (tt, tt)
  distinct_more (k ∷ xs) x h none = (
    all_more (λ y. eq k y ≡ false) xs x h.0 (or_left (eq k x) (list_any (λ k. eq k x) xs) none),
    distinct_more xs x h.1 (or_right (eq k x) (list_any (λ k. eq k x) xs) none),
  )

  none_distinct : IsDistinct eq []
  unfolding IsDistinct
  none_distinct = tt

-- ---- forms

once_distinct : (before : List (List ℕ)) (index : ℕ) (forms found : List (List ℕ))
    → IsDistinct bytes_eq before → forms_once before index forms ≡ Ok found
    → IsDistinct bytes_eq found
once_distinct before index [] found h e = subst (IsDistinct bytes_eq) (same_read before found e) h
once_distinct before index (form ∷ forms) found h e =
    let go : (b : Bool) → is_among before form ≡ b → cond b (Err
    (Twice part.Forms index)) (forms_once (before ++ (form ∷ [])) (index + 1) forms) ≡ Ok found
    → IsDistinct bytes_eq found
    = λ b. elim b as (λ b. is_among before form ≡ b
    → cond b (Err (Twice part.Forms index)) (forms_once (before ++ (form ∷ [])) (index + 1) forms)
    ≡ Ok found → IsDistinct bytes_eq found) [
      | true ↦ λ is e. cc
      | false ↦ λ is e. once_distinct (before ++ (form ∷ [])) (index + 1) forms found
          (distinct_more bytes_eq before form h is) e
    ] in
    go (is_among before form) refl e

forms_distinct : (listed : Option Data) (forms : List (List ℕ)) → forms_of listed ≡ Ok forms
    → IsDistinct bytes_eq forms
forms_distinct None forms e = cc
forms_distinct (Some d) forms e =
    let found = then_by (forms_listed (as_array d)) (forms_once [] 0) forms e in
    once_distinct [] 0 found.0 forms (none_distinct bytes_eq) found.2

-- ---- texts

one_distinct : (texts : List LicenceText) (index : ℕ) (text : LicenceText)
    (found : List LicenceText) → IsDistinct same_licence texts
    → with_one_text texts index text ≡ Ok found → IsDistinct same_licence found
one_distinct texts index text found h e =
    let go : (b : Bool) → list_any (is_text_of text.licence) texts ≡ b → cond b (Err
    (Twice part.Text index)) (Ok (texts ++ (text ∷ []))) ≡ Ok found → IsDistinct same_licence found
    = λ b. elim b as (λ b. list_any (is_text_of text.licence) texts ≡ b
    → cond b (Err (Twice part.Text index)) (Ok (texts ++ (text ∷ []))) ≡ Ok found
    → IsDistinct same_licence found) [
      | true ↦ λ is e. cc
      | false ↦ λ is e. subst (IsDistinct same_licence) (same_read (texts ++ (text ∷ [])) found e)
          (distinct_more same_licence texts text h is)
    ] in
    go (list_any (is_text_of text.licence) texts) refl e

texts_distinct : (listed : Option Data) (texts : List LicenceText)
    → licence_texts_of listed ≡ Ok texts → IsDistinct same_licence texts
texts_distinct listed texts e =
    let found = then_by (tables_of part.Text listed) (each with_text [] 0) texts e in
    each_holds (IsDistinct same_licence) with_text step [] 0 found.0 texts
    (none_distinct same_licence) found.2
  where
    step : (ts : List LicenceText) (i : ℕ) (d : Data) (more : List LicenceText)
        → IsDistinct same_licence ts → with_text ts i d ≡ Ok more → IsDistinct same_licence more
    step ts i d more h e =
        let found = then_by (text_at i d) (with_one_text ts i) more e in
        one_distinct ts i found.0 more h found.2

-- ---- the whole

pub stand_once : (terms : List ℕ → Option (List ℕ)) (text : List ℕ) (catalogue : Catalogue)
    → catalogue_of terms text ≡ Ok catalogue
    → IsDistinct bytes_eq catalogue.forms × IsDistinct same_licence catalogue.texts
stand_once terms text catalogue e =
    let read = parts_read terms text catalogue e in (
      subst (λ (c : Catalogue). IsDistinct bytes_eq c.forms) read.same
          (forms_distinct (get_member (codes "forms") read.members) read.forms read.forms_are),
      subst (λ (c : Catalogue). IsDistinct same_licence c.texts) read.same
          (texts_distinct (get_member (codes "text") read.members) read.texts read.texts_are),
    )
