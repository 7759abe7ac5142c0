-- What the check of a document knows.
use Rattle.std.proofs.Common.{◌≡◌, ◌∙◌, ℕ, List, [], ◌∷◌, subst, ap, refl, Bool, true, false, cond}
use Rattle.std.specs.Prelude.{◌||◌, ◌&&◌, reverse}
use Rattle.std.specs.List.{list_any}
use Rattle.std.specs.Str.{bytes_eq}
use Rattle.std.specs.Ordering.{nat_cmp}
use Rattle.std.specs.Cmp.Lexicographic.{slice_cmp}
use Rattle.std.specs.BTreeSet.{BTreeSet, UpdatesBy}
use Rattle.std.proofs.lemmas.Map.Text.{is_eq-slice_cmp}
use Rattle.std.proofs.lemmas.List.{reverse-append}
use Rattle.std.proofs.lemmas.List.Folds.{list_any-append}
use Rattle.std.proofs.Math.Bool.{or_comm}
use Rattle.desk_base.proofs.Bools.{cond_or}
use denote.Ref.{Bor}
use Rattle.desk_fields.specs.declared.tag.Tag.{Tag}
use Rattle.desk_tagvalue.specs.Entries.{EntryText}
use Rattle.desk_tagvalue.specs.Sections.{once_in_document, once_in_section, is_placed}
use Rattle.desk_tagvalue.specs.Faults.{has_tag, kind_of, section, is_again}
use Rattle.desk_tagvalue.specs.Seen.{has_key}

-- one more identifier
pub one_more : (v : Bor (List ℕ)) (s n : BTreeSet (Bor (List ℕ)))
    → UpdatesBy (λ x y. slice_cmp nat_cmp x.now y.now) (λ k. slice_cmp nat_cmp v.now k.now) s n true
    → (q : List ℕ) → has_key q n ≡ (bytes_eq v.now q || has_key q s)
one_more v s n h q =
    let rest = has_key q s in
    h.0 (record v { now = q }) ∙ ap (λ b. cond b true rest) (is_eq-slice_cmp v.now q)
    ∙ cond_or (bytes_eq v.now q) rest

-- the order of fields doesn't matter for whether one of them passes
pub any_reverse : {X : Type 0} (p : X → Bool) (xs : List X)
    → list_any p (reverse xs) ≡ list_any p xs
any_reverse p [] = refl
any_reverse p (x ∷ xs) =
    ap (list_any p) (reverse-append (x ∷ []) xs) ∙ list_any-append p (reverse xs) (x ∷ [])
    ∙ or_comm (list_any p (reverse xs)) (list_any p (x ∷ []))
    ∙ ap (λ v. list_any p (x ∷ []) || v) (any_reverse p xs) ∙ one (p x) (list_any p xs)
  where
    one : (a b : Bool) → ((a || false) || b) ≡ (a || b)
    one true b = refl
    one false b = refl

-- a choice of three
pub first_of_three : {T : Type 0} (a : Bool) (x y : T) → a ≡ true → x ≡ cond a x y
first_of_three true x y h = refl
first_of_three false x y h = absurd cc

pub second_of_three : {T : Type 0} (a b : Bool) (x y z : T) → a ≡ false → b ≡ true
    → y ≡ cond a x (cond b y z)
second_of_three false true x y z h k = refl
second_of_three true b x y z h k = absurd cc
second_of_three false false x y z h k = absurd cc

pub third_of_three : {T : Type 0} (a b c : Bool) (x y z w : T) → a ≡ false → b ≡ false → c ≡ true
    → z ≡ cond a x (cond b y (cond c z w))
third_of_three false false true x y z w h k l = refl
third_of_three true b c x y z w h k l = absurd cc
third_of_three false true c x y z w h k l = absurd cc
third_of_three false false false x y z w h k l = absurd cc

pub none_of_three : {T : Type 0} (a b c : Bool) (x y z w : T) → a ≡ false → b ≡ false → c ≡ false
    → w ≡ cond a x (cond b y (cond c z w))
none_of_three false false false x y z w h k l = refl
none_of_three true b c x y z w h k l = absurd cc
none_of_three false true c x y z w h k l = absurd cc
none_of_three false false true x y z w h k l = absurd cc

-- whether a field occurs again
pub again_in_document : (tag : Tag) (bs : List EntryText) (e : EntryText) → e.tag ≡ tag
    → once_in_document tag ≡ true → list_any (has_tag tag) bs ≡ is_again bs e
again_in_document tag bs e is =
    subst (λ t. once_in_document t ≡ true → list_any (has_tag t) bs ≡ is_again bs e) is
    (λ once. first_of_three (once_in_document e.tag) (list_any (has_tag e.tag) bs)
    (once_in_section e.tag && is_placed (kind_of bs) e.tag && list_any (has_tag e.tag) (section bs))
    once)

pub again_in_section : (tag : Tag) (bs : List EntryText) (e : EntryText) → e.tag ≡ tag
    → once_in_document tag ≡ false
    → (once_in_section tag && is_placed (kind_of bs) tag && list_any (has_tag tag) (section bs))
    ≡ is_again bs e
again_in_section tag bs e is =
    subst (λ t. once_in_document t ≡ false
    → (once_in_section t && is_placed (kind_of bs) t && list_any (has_tag t) (section bs))
    ≡ is_again bs e) is
    (λ often. other (once_in_document e.tag) (list_any (has_tag e.tag) bs)
    (once_in_section e.tag && is_placed (kind_of bs) e.tag && list_any (has_tag e.tag) (section bs))
    often)
  where
    other : (a : Bool) (x y : Bool) → a ≡ false → y ≡ cond a x y
    other false x y h = refl
    other true x y h = absurd cc

pub not_first : (a b c : Bool) → a ≡ false → false ≡ (a && b && c)
not_first false b c h = refl
not_first true b c h = absurd cc

pub not_second : (a b c : Bool) → a ≡ true → b ≡ false → false ≡ (a && b && c)
not_second true false c h k = refl
not_second true true c h k = absurd cc
not_second false b c h k = absurd cc

pub by_third : (a b c : Bool) → a ≡ true → b ≡ true → c ≡ (a && b && c)
by_third true true c h k = refl
by_third true false c h k = absurd cc
by_third false b c h k = absurd cc
