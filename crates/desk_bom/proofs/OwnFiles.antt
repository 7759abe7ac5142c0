-- Each file belongs to the last package before it.
use Rattle.std.proofs.Common.{◌≡◌, ◌∙◌, ℕ, ◌+◌, ◌-◌, ◌<◌, Bool, true, false, cond, List, [], ◌∷◌, ◌++◌}
use Rattle.std.proofs.Common.{length, refl, sym, ap, subst, arith}
use Rattle.std.specs.Prelude.{◌==◌, Contains}
use Rattle.std.specs.List.{count_by, filter_map}
use Rattle.std.proofs.lemmas.Bool.{eqb-true}
use Rattle.std.proofs.lemmas.Bool.Decides.{nat_tests}
use Rattle.std.proofs.lemmas.List.Elements.{Contains-append_left, Contains-append_right}
use Rattle.std.proofs.lemmas.List.Sums.{sum_by-cons}
use Rattle.desk_fields.specs.Tags.{same_tag, tag_place}
use Rattle.desk_fields.specs.declared.tag.Tag.{Tag}
use Rattle.desk_fields.specs.declared.tag.Tag.TheVariants as tags
use Rattle.desk_tagvalue.specs.Entries.{EntryText}
use Rattle.desk_tagvalue.specs.Faults.{has_tag}
use Rattle.desk_tagvalue.specs.Parts.{DocumentText}
use Rattle.desk_bom.specs.Contents.{contents, onto_package, own_files, tie}
use Rattle.desk_bom.specs.declared.arrows.Arrow.{Arrow}

abbrev weight : Bool → ℕ
weight b = cond b 1 0

abbrev count : Tag → List EntryText → ℕ
count tag es = count_by (has_tag tag) es

more : (tag : Tag) (e : EntryText) (es : List EntryText)
    → count tag (e ∷ es) ≡ weight (has_tag tag e) + count tag es
more tag e es = sum_by-cons (λ x. cond (has_tag tag x) 1 0) e es

onto-append : (p f : ℕ) (xs ys : List Arrow) → onto_package p f (xs ++ ys) ≡ onto_package p f xs ++ ys
onto-append p f xs ys = elim (p == 0) as (λ b. cond b (xs ++ ys)
    (record { from = p - 1; to = f } ∷ (xs ++ ys))
    ≡ cond b xs (record { from = p - 1; to = f } ∷ xs) ++ ys) [ true ↦ refl | false ↦ refl ]

-- a field that begins a package begins no file
other : (t : Tag) → same_tag t tags.PackageName ≡ true → same_tag t tags.FileName ≡ false
other t is = ap (λ n. n == 15) (eqb-true (tag_place t) 7 is)

moved : (p q f g : ℕ) (ys : List EntryText) → p ≡ q → f ≡ g → own_files p f ys ≡ own_files q g ys
moved p q f g ys is also = λ i. own_files (is i) (also i) ys

-- the files of a text and of what follows it
split : (xs ys : List EntryText) (p f : ℕ) → own_files p f (xs ++ ys) ≡ own_files p f xs
    ++ own_files (p + count tags.PackageName xs) (f + count tags.FileName xs) ys
split [] ys p f = moved p (p + 0) f (f + 0) ys (omega arith) (omega arith)
split (e ∷ xs) ys p f =
    by_kind (same_tag e.tag tags.PackageName) (same_tag e.tag tags.FileName) refl refl
    (split xs ys (p + 1) f) (split xs ys p (f + 1)) (split xs ys p f)
  where
    by_kind : (a b : Bool) → same_tag e.tag tags.PackageName ≡ a → same_tag e.tag tags.FileName ≡ b
        → own_files (p + 1) f (xs ++ ys) ≡ own_files (p + 1) f xs
        ++ own_files (p + 1 + count tags.PackageName xs) (f + count tags.FileName xs) ys
        → own_files p (f + 1) (xs ++ ys) ≡ own_files p (f + 1) xs
        ++ own_files (p + count tags.PackageName xs) (f + 1 + count tags.FileName xs) ys
        → own_files p f (xs ++ ys) ≡ own_files p f xs
        ++ own_files (p + count tags.PackageName xs) (f + count tags.FileName xs) ys
        → cond a (own_files (p + 1) f (xs ++ ys))
        (cond b (onto_package p f (own_files p (f + 1) (xs ++ ys))) (own_files p f (xs ++ ys)))
        ≡ cond a (own_files (p + 1) f xs)
        (cond b (onto_package p f (own_files p (f + 1) xs)) (own_files p f xs))
        ++ own_files (p + count tags.PackageName (e ∷ xs)) (f + count tags.FileName (e ∷ xs)) ys
    by_kind true b begins holds first second third =
        let one : weight (has_tag tags.PackageName e) ≡ 1 = ap weight begins in
        let none : weight (has_tag tags.FileName e) ≡ 0 = ap weight (other e.tag begins) in
        first ∙ ap (λ l. own_files (p + 1) f xs ++ l)
        (moved (p + 1 + count tags.PackageName xs) (p + count tags.PackageName (e ∷ xs))
        (f + count tags.FileName xs) (f + count tags.FileName (e ∷ xs)) ys
        (omega (arith, more tags.PackageName e xs, one))
        (omega (arith, more tags.FileName e xs, none)))
    by_kind false true begins holds first second third =
        let none : weight (has_tag tags.PackageName e) ≡ 0 = ap weight begins in
        let one : weight (has_tag tags.FileName e) ≡ 1 = ap weight holds in
        ap (onto_package p f) second
        ∙ onto-append p f (own_files p (f + 1) xs)
        (own_files (p + count tags.PackageName xs) (f + 1 + count tags.FileName xs) ys)
        ∙ ap (λ l. onto_package p f (own_files p (f + 1) xs) ++ l)
        (moved (p + count tags.PackageName xs) (p + count tags.PackageName (e ∷ xs))
        (f + 1 + count tags.FileName xs) (f + count tags.FileName (e ∷ xs)) ys
        (omega (arith, more tags.PackageName e xs, none))
        (omega (arith, more tags.FileName e xs, one)))
    by_kind false false begins holds first second third =
        let none : weight (has_tag tags.PackageName e) ≡ 0 = ap weight begins in
        let also : weight (has_tag tags.FileName e) ≡ 0 = ap weight holds in
        third ∙ ap (λ l. own_files p f xs ++ l)
        (moved (p + count tags.PackageName xs) (p + count tags.PackageName (e ∷ xs))
        (f + count tags.FileName xs) (f + count tags.FileName (e ∷ xs)) ys
        (omega (arith, more tags.PackageName e xs, none))
        (omega (arith, more tags.FileName e xs, also)))

-- a package begins
package_first : (e : EntryText) (es : List EntryText) (p f : ℕ) → e.tag ≡ tags.PackageName
    → own_files p f (e ∷ es) ≡ own_files (p + 1) f es
package_first e es p f is =
    ap (λ t. cond (same_tag t tags.PackageName) (own_files (p + 1) f es)
    (cond (same_tag t tags.FileName) (onto_package p f (own_files p (f + 1) es))
    (own_files p f es))) is

file_first : (e : EntryText) (es : List EntryText) (p f : ℕ) → e.tag ≡ tags.FileName
    → own_files (p + 1) f (e ∷ es) ≡ record { from = p; to = f } ∷ own_files (p + 1) (f + 1) es
file_first e es p f is =
    let some : ((p + 1) == 0) ≡ false = grind (arith, nat_tests) in
    let before : p + 1 - 1 ≡ p = omega arith in
    ap (λ t. cond (same_tag t tags.PackageName) (own_files (p + 1 + 1) f es)
    (cond (same_tag t tags.FileName) (onto_package (p + 1) f (own_files (p + 1) (f + 1) es))
    (own_files (p + 1) f es))) is
    ∙ ap (λ b. cond b (own_files (p + 1) (f + 1) es)
    (record { from = p + 1 - 1; to = f } ∷ own_files (p + 1) (f + 1) es)) some
    ∙ ap (λ n. record { from = n; to = f } ∷ own_files (p + 1) (f + 1) es) before

first_of : (x : Arrow) (xs : List Arrow) → Contains (x ∷ xs) x
first_of x xs = let within : 0 < length (x ∷ xs) = omega arith in (0, within, refl)

pub belongs : (d : DocumentText) (before between after : List EntryText) (p f : EntryText)
    → d.entries ≡ before ++ (p ∷ (between ++ (f ∷ after))) → p.tag ≡ tags.PackageName
    → f.tag ≡ tags.FileName → count_by (has_tag tags.PackageName) between ≡ 0
    → Contains (contents d) (record {
      from = count_by (has_tag tags.PackageName) before;
      to = count_by (has_tag tags.FileName) before + count_by (has_tag tags.FileName) between;
    })
belongs d before between after p f are begins holds none =
    let packages = count tags.PackageName before in
    let files = count tags.FileName before in
    let at = files + count tags.FileName between in
    let arrow : Arrow = record { from = packages; to = at } in
    let rest = between ++ (f ∷ after) in
    let whole : own_files 0 0 d.entries ≡ own_files 0 0 before
    ++ (own_files (packages + 1) files between
    ++ (arrow ∷ own_files (packages + 1) (at + 1) after)) =
    ap (own_files 0 0) are
    ∙ split before (p ∷ rest) 0 0
    ∙ ap (λ l. own_files 0 0 before ++ l)
    (moved (0 + packages) packages (0 + files) files (p ∷ rest) (omega arith) (omega arith)
    ∙ package_first p rest packages files begins
    ∙ split between (f ∷ after) (packages + 1) files
    ∙ ap (λ l. own_files (packages + 1) files between ++ l)
    (moved (packages + 1 + count tags.PackageName between) (packages + 1) at at (f ∷ after)
    (omega (arith, none)) refl
    ∙ file_first f after packages at holds)) in
    Contains-append_left (own_files 0 0 d.entries) (filter_map (tie d) d.edges) arrow
    (subst (λ l. Contains l arrow) (sym whole)
    (Contains-append_right (own_files 0 0 before)
    (own_files (packages + 1) files between ++ (arrow ∷ own_files (packages + 1) (at + 1) after))
    arrow
    (Contains-append_right (own_files (packages + 1) files between)
    (arrow ∷ own_files (packages + 1) (at + 1) after) arrow
    (first_of arrow (own_files (packages + 1) (at + 1) after)))))

-- before the first package no file belongs to one
pub nobodys : (es : List EntryText) (f : ℕ) → count_by (has_tag tags.PackageName) es ≡ 0
    → own_files 0 f es ≡ []
nobodys [] f none = refl
nobodys (e ∷ es) f none =
    by_kind (same_tag e.tag tags.PackageName) (same_tag e.tag tags.FileName) refl
    (λ g. nobodys es g (omega (arith, none, more tags.PackageName e es)))
  where
    by_kind : (a b : Bool) → same_tag e.tag tags.PackageName ≡ a
        → ((g : ℕ) → own_files 0 g es ≡ [])
        → cond a (own_files 1 f es) (cond b (own_files 0 (f + 1) es) (own_files 0 f es)) ≡ []
    by_kind true b begins later =
        let one : weight (has_tag tags.PackageName e) ≡ 1 = ap weight begins in
        absurd (omega (arith, none, more tags.PackageName e es, one))
    by_kind false true begins later = later (f + 1)
    by_kind false false begins later = later f
