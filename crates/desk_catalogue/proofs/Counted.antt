-- A catalogue keeps one rule and one text for each table.
use Rattle.std.proofs.Common.{◌≡◌, ◌∙◌, ℕ, ◌+◌, Bool, true, false, cond, List, [], ◌∷◌, ◌++◌, length, refl}
use Rattle.std.proofs.Common.{sym, ap, arith, length-append, Option, Ok, Err, Ordering, Less}
use Rattle.std.proofs.Common.{Equal, Greater}
use Rattle.std.specs.Prelude.{◌&&◌, codes}
use Rattle.std.specs.List.{list_any}
use Rattle.std.specs.Cmp.Lexicographic.{slice_cmp}
use Rattle.std.specs.Ordering.{is_eq, match_ordering, nat_cmp}
use Rattle.desk_base.proofs.Orders.{both_equal}
use Rattle.std.proofs.lemmas.Map.Text.{is_eq-slice_cmp}
use Rattle.std.specs.Str.{bytes_eq}
use Rattle.toml.specs.Data.{Data, Items, no_items, item, Members, get_member}
use Rattle.desk_base.proofs.Bools.{or_left, or_right}
use Rattle.desk_base.proofs.Texts.{texts_turned}
use Rattle.desk_model.specs.Keys.{is_rule, rule_order}
use Rattle.desk_model.specs.declared.reading.Rule.{Rule}
use Rattle.desk_model.specs.declared.refusal.CatalogueFault.{CatalogueFault}
use Rattle.desk_model.specs.declared.refusal.CatalogueFault.TheVariants.{Twice}
use Rattle.desk_model.specs.declared.refusal.CataloguePart.TheVariants as part
use Rattle.desk_catalogue.specs.declared.catalogue.Catalogue.{Catalogue}
use Rattle.desk_catalogue.specs.declared.catalogue.LicenceText.{LicenceText}
use Rattle.desk_catalogue.specs.Kept.{has_rule, is_text_of, put_rule}
use Rattle.desk_catalogue.specs.Reading.{Read, catalogue_of_table, count, duties_of, each, forms_of}
use Rattle.desk_catalogue.specs.Reading.{licence_texts_of, rule_at, rules_of, tables_of, text_at}
use Rattle.desk_catalogue.specs.Reading.{with_one, with_one_text, with_rule, with_text}
use Rattle.desk_catalogue.proofs.OrderLaws.{same_read, then_by, unless}

passed : {A : Type 0} (b : Bool) (f : CatalogueFault) (r : Read A) (x : A)
    → cond b (Err f) r ≡ Ok x → b ≡ false
passed true f r x e = absurd cc
passed false f r x e = refl

-- ---- one more for each value

each_counts : {S : Type 0} (size : S → ℕ) (put : S → ℕ → Data → Read S)
    → ((s : S) (i : ℕ) (d : Data) (t : S) → put s i d ≡ Ok t → size t ≡ size s + 1)
    → (s : S) (i : ℕ) (ds : Items) (t : S) → each put s i ds ≡ Ok t → size t ≡ size s + count ds
each_counts size put step s i no_items t e =
    let same : size t ≡ size s = ap size (sym (same_read s t e)) in
    omega (arith, same)
each_counts size put step s i (item d ds) t e =
    let found = then_by (put s i d) (λ next. each put next (i + 1) ds) t e in
    let here : size found.0 ≡ size s + 1 = step s i d found.0 found.1 in
    let later : size t ≡ size found.0 + count ds =
    each_counts size put step found.0 (i + 1) ds t found.2 in
    omega (arith, here, later)

-- ---- rules

same_text : (a b : List ℕ) → slice_cmp nat_cmp a b ≡ Equal → bytes_eq b a ≡ true
same_text a b e = texts_turned b a ∙ sym (is_eq-slice_cmp a b) ∙ ap is_eq e

pub same_key : (x r : Rule) → rule_order x r ≡ Equal → is_rule x.term x.form r ≡ true
same_key x r e =
    let two = both_equal (slice_cmp nat_cmp x.term r.term) (slice_cmp nat_cmp x.form r.form) e in
    λ i. same_text x.term r.term two.0 i && same_text x.form r.form two.1 i

one_more : (x : Rule) (rs : List Rule) → has_rule rs x ≡ false
    → length (put_rule x rs) ≡ length rs + 1
one_more x [] none = refl
one_more x (r ∷ rs) none =
    let here : is_rule x.term x.form r ≡ false =
    or_left (is_rule x.term x.form r) (has_rule rs x) none in
    let later : length (put_rule x rs) ≡ length rs + 1 =
    one_more x rs (or_right (is_rule x.term x.form r) (has_rule rs x) none) in
    placed (rule_order x r) refl here later
  where
    placed : (o : Ordering) → rule_order x r ≡ o → is_rule x.term x.form r ≡ false
        → length (put_rule x rs) ≡ length rs + 1
        → length (match_ordering o (x ∷ r ∷ rs) (x ∷ rs) (r ∷ put_rule x rs))
        ≡ length (r ∷ rs) + 1
    placed Less is here later = omega arith
    placed Equal is here later = absurd (clash (is_rule x.term x.form r) (same_key x r is) here)
      where
        clash : (b : Bool) → b ≡ true → b ≡ false → ⊥
        clash b h k = cc
    placed Greater is here later = omega (arith, later)

rules_counted : (terms : List ℕ → Option (List ℕ)) (forms duties : List (List ℕ)) (ds : Items)
    (rules : List Rule) → each (with_rule terms forms duties) [] 0 ds ≡ Ok rules
    → length rules ≡ count ds
rules_counted terms forms duties ds rules e =
    let all = each_counts (λ (rs : List Rule). length rs) (with_rule terms forms duties) step [] 0
    ds rules e in
    omega (arith, all)
  where
    step : (rs : List Rule) (i : ℕ) (d : Data) (ts : List Rule)
        → with_rule terms forms duties rs i d ≡ Ok ts → length ts ≡ length rs + 1
    step rs i d ts e =
        let found = then_by (rule_at terms forms duties i d) (with_one rs i) ts e in
        ap length (sym (same_read (put_rule found.0 rs) ts
        (unless (has_rule rs found.0) (Twice part.Rule i) (Ok (put_rule found.0 rs)) ts found.2)))
        ∙ one_more found.0 rs
        (passed (has_rule rs found.0) (Twice part.Rule i) (Ok (put_rule found.0 rs)) ts found.2)

-- ---- texts

texts_counted : (ds : Items) (texts : List LicenceText) → each with_text [] 0 ds ≡ Ok texts
    → length texts ≡ count ds
texts_counted ds texts e =
    let all = each_counts (λ (ts : List LicenceText). length ts) with_text step [] 0 ds texts e in
    omega (arith, all)
  where
    step : (ts : List LicenceText) (i : ℕ) (d : Data) (more : List LicenceText)
        → with_text ts i d ≡ Ok more → length more ≡ length ts + 1
    step ts i d more e =
        let found = then_by (text_at i d) (with_one_text ts i) more e in
        ap length (sym (same_read (ts ++ (found.0 ∷ [])) more
        (unless (list_any (is_text_of found.0.licence) ts) (Twice part.Text i)
        (Ok (ts ++ (found.0 ∷ []))) more found.2)))
        ∙ length-append ts (found.0 ∷ [])

-- ---- the whole

pub all_kept : (terms : List ℕ → Option (List ℕ)) (ms : Members) (c : Catalogue)
    → catalogue_of_table terms ms ≡ Ok c
    → (rules texts : Items) × (tables_of part.Rule (get_member (codes "rule") ms) ≡ Ok rules)
    × (length c.rules ≡ count rules)
    × (tables_of part.Text (get_member (codes "text") ms) ≡ Ok texts)
    × (length c.texts ≡ count texts)
all_kept terms ms c e =
    let forms = then_by (forms_of (get_member (codes "forms") ms)) _ c e in
    let duties = then_by (duties_of (get_member (codes "duty") ms)) _ c forms.2 in
    let rules = then_by (rules_of terms forms.0 duties.0 (get_member (codes "rule") ms)) _ c
    duties.2 in
    let texts = then_by (licence_texts_of (get_member (codes "text") ms)) _ c rules.2 in
    let same = same_read _ c texts.2 in
    let by_rule = then_by (tables_of part.Rule (get_member (codes "rule") ms))
    (each (with_rule terms forms.0 duties.0) [] 0) rules.0 rules.1 in
    let by_text = then_by (tables_of part.Text (get_member (codes "text") ms))
    (each with_text [] 0) texts.0 texts.1 in (
      by_rule.0,
      by_text.0,
      by_rule.1,
      ap (λ (x : Catalogue). length x.rules) (sym same)
          ∙ rules_counted terms forms.0 duties.0 by_rule.0 rules.0 by_rule.2,
      by_text.1,
      ap (λ (x : Catalogue). length x.texts) (sym same)
          ∙ texts_counted by_text.0 texts.0 by_text.2,
    )
