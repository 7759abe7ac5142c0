-- By a right reading each code of a rule is an idstring.
use Rattle.std.proofs.Common.{◌≡◌, ◌∙◌, ℕ, Bool, true, false, List, [], ◌∷◌, Option, Some, None, Ok}
use Rattle.std.proofs.Common.{sym, subst, ap, refl}
use Rattle.std.proofs.lemmas.Bool.{and_from}
use Rattle.std.specs.Prelude.{codes, length, nat_le, ◌||◌, unwrap_or, if◌then◌else◌}
use Rattle.std.specs.List.{list_all}
use Rattle.std.specs.Option.{ok_or, option_and_then}
use Rattle.std.specs.Str.{bytes_eq}
use Rattle.toml.specs.Data.{as_str, as_table, Data, get_member}
use Rattle.desk_base.proofs.Bools.{and_left, and_right}
use Rattle.desk_base.proofs.Texts.{texts_equal}
use Rattle.desk_base.specs.Idstring.{is_idstring}
use Rattle.desk_base.specs.TextSets.{is_among}
use Rattle.desk_base.specs.Limits as limit
use Rattle.desk_catalogue.proofs.OrderLaws.{each_holds, parts_read, same_read, then_by, unless}
use Rattle.desk_catalogue.specs.Reading.{catalogue_of, duties_of, duty_at, duty_of_keys}
use Rattle.desk_catalogue.specs.Reading.{duty_of_values, each}
use Rattle.desk_catalogue.specs.Reading.{tables_of, with_code, with_duty}
use Rattle.desk_catalogue.specs.Values.{id_of, if_passes, is_id, title_of}
use Rattle.desk_catalogue.specs.declared.catalogue.Catalogue.{Catalogue as WholeCatalogue}
use Rattle.desk_history_laws.specs.Ids.{ListsIds}
use Rattle.desk_history_laws.proofs.Once.{of_whole}
use Rattle.desk_history_laws.proofs.ReadRules.{each_in, each_rule}
use Rattle.desk_model.specs.Lists.{IsIn}
use Rattle.desk_model.specs.Readings.{Readings}
use Rattle.desk_model.specs.Texts.{put_new, sorted_set, text_below}
use Rattle.desk_model.specs.declared.reading.Rule.{Rule}
use Rattle.desk_model.specs.declared.refusal.CatalogueFault.TheVariants.{BadKind, Twice}
use Rattle.desk_model.specs.declared.refusal.CataloguePart.TheVariants as part
use Rattle.desk_texts.specs.Right.{AreRight}
use Rattle.desk_texts.specs.Rising.{Each}

abbrev are_ids : List (List ℕ) → Bool
are_ids texts = list_all is_idstring texts

ids_put : (x : List ℕ) (ys : List (List ℕ)) → is_idstring x ≡ true → are_ids ys ≡ true
    → are_ids (put_new x ys) ≡ true
ids_put x [] id all = and_from (is_idstring x) true id refl
ids_put x (y ∷ ys) id all = by_place (ids_put x ys id (and_right (is_idstring y) (are_ids ys) all))
    (text_below x y) (bytes_eq x y)
  where
    by_place : are_ids (put_new x ys) ≡ true → (a b : Bool)
        → are_ids (if a then x ∷ y ∷ ys else (if b then y ∷ ys else y ∷ put_new x ys)) ≡ true
    by_place rest true b = and_from (is_idstring x) (are_ids (y ∷ ys)) id all
    by_place rest false true = all
    by_place rest false false = and_from (is_idstring y) (are_ids (put_new x ys))
        (and_left (is_idstring y) (are_ids ys) all) rest

ids_sorted : (xs : List (List ℕ)) → are_ids xs ≡ true → are_ids (sorted_set xs) ≡ true
ids_sorted [] all = refl
ids_sorted (x ∷ xs) all = ids_put x (sorted_set xs) (and_left (is_idstring x) (are_ids xs) all)
    (ids_sorted xs (and_right (is_idstring x) (are_ids xs) all))

-- ---- the codes of duties

passed : (text code : List ℕ) (b : Bool) → is_id text ≡ b
    → (if b then Some text else None) ≡ Some code → is_id code ≡ true
passed text code true e same = let is : text ≡ code = ap (λ o. unwrap_or o text) same in
    subst (λ t. is_id t ≡ true) is e
passed text code false e same = cc

id_given : (o : Option (List ℕ)) (code : List ℕ) → option_and_then (if_passes is_id) o ≡ Some code
    → is_id code ≡ true
id_given None code e = cc
id_given (Some text) code e = passed text code (is_id text) refl e

given_code : (index : ℕ) (o p : Option (List ℕ)) (code : List ℕ)
    → duty_of_values index o p ≡ Ok code → o ≡ Some code
given_code index (Some c) (Some t) code e = ap (λ x. Some x) (same_read c code e)
given_code index (Some c) None code e = cc
given_code index None p code e = cc

id_read : (index : ℕ) (a b : Option Data) (code : List ℕ) → duty_of_keys index a b ≡ Ok code
    → is_id code ≡ true
id_read index (Some c) (Some t) code e = id_given (as_str c) code
    (given_code index (id_of c) (title_of t) code e)
id_read index (Some c) None code e = cc
id_read index None b code e = cc

duty_is_id : (index : ℕ) (d : Data) (code : List ℕ) → duty_at index d ≡ Ok code
    → is_idstring code ≡ true
duty_is_id index d code e =
    let ms = then_by (ok_or (as_table d) (BadKind part.Duty index))
    (λ ms. duty_of_keys index (get_member (codes "code") ms) (get_member (codes "title") ms)) code
    e in
    and_left (is_idstring code) (nat_le (length code) limit.id_bytes)
    (id_read index (get_member (codes "code") ms.0) (get_member (codes "title") ms.0) code ms.2)

one_more : (before : List (List ℕ)) (index : ℕ) (d : Data) (after : List (List ℕ))
    → are_ids before ≡ true → with_duty before index d ≡ Ok after → are_ids after ≡ true
one_more before index d after all e =
    let code = then_by (duty_at index d) (with_code before index) after e in
    let same = same_read (put_new code.0 before) after
    (unless (is_among before code.0) (Twice part.Duty index) (Ok (put_new code.0 before)) after
    code.2) in
    subst (λ texts. are_ids texts ≡ true) same
    (ids_put code.0 before (duty_is_id index d code.0 code.1) all)

duties_are_ids : (listed : Option Data) (duties : List (List ℕ)) → duties_of listed ≡ Ok duties
    → are_ids duties ≡ true
duties_are_ids listed duties e =
    let tables = then_by (tables_of part.Duty listed) (each with_duty [] 0) duties e in
    each_holds (λ texts. are_ids texts ≡ true) with_duty one_more [] 0 tables.0 duties refl tables.2

-- ---- the codes of rules

id_among : (duties : List (List ℕ)) (text : List ℕ) → are_ids duties ≡ true
    → is_among duties text ≡ true → is_idstring text ≡ true
id_among [] text all e = cc
id_among (duty ∷ duties) text all e = by_head
    (id_among duties text (and_right (is_idstring duty) (are_ids duties) all)) (bytes_eq duty text)
    refl e
  where
    by_head : (is_among duties text ≡ true → is_idstring text ≡ true) → (b : Bool)
        → bytes_eq duty text ≡ b → (b || is_among duties text) ≡ true → is_idstring text ≡ true
    by_head rest true same e = subst (λ t. is_idstring t ≡ true) (texts_equal duty text same)
        (and_left (is_idstring duty) (are_ids duties) all)
    by_head rest false other e = rest e

ids_among : (duties texts : List (List ℕ)) → are_ids duties ≡ true
    → list_all (is_among duties) texts ≡ true → are_ids texts ≡ true
ids_among duties [] all e = refl
ids_among duties (text ∷ texts) all e =
    and_from (is_idstring text) (are_ids texts)
    (id_among duties text all (and_left (is_among duties text) (list_all (is_among duties) texts)
    e))
    (ids_among duties texts all (and_right (is_among duties text) (list_all (is_among duties) texts)
    e))

abbrev HasIds : Rule → Type 0
HasIds rule = are_ids rule.codes ≡ true

catalogue_has : (terms : List ℕ → Option (List ℕ)) (text : List ℕ) (catalogue : WholeCatalogue)
    → catalogue_of terms text ≡ Ok catalogue → Each HasIds catalogue.rules
catalogue_has terms text catalogue e =
    let read = parts_read terms text catalogue e in
    each_rule HasIds terms read.forms read.duties (get_member (codes "rule") read.members)
    catalogue.rules
    (λ index rule is. subst HasIds is.is (ids_sorted is.texts.duties
    (ids_among read.duties is.texts.duties
    (duties_are_ids (get_member (codes "duty") read.members) read.duties read.duties_are)
    is.among)))
    (read.rules_are ∙ ap (λ (c : WholeCatalogue). Ok c.rules) read.same)

pub lists_ids : (w : Readings) → AreRight w → ListsIds w
lists_ids w right text catalogue rule e m =
    let whole = of_whole (catalogue_of w.term text) catalogue (sym (right.catalogue text) ∙ e) in
    each_in HasIds rule whole.0.rules (subst (IsIn rule) whole.2 m)
    (catalogue_has w.term text whole.0 whole.1)
