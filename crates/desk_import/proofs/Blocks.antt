-- Sections that are listed one after the other.
use Rattle.std.proofs.Common.{◌≡◌, ◌∙◌, ℕ, true, false, cond, List, [], ◌∷◌, ◌++◌, map, Some, refl, sym, ap, subst}
use Rattle.std.proofs.Common.{append_assoc}
use Rattle.std.specs.Prelude.{◌&&◌, filter, All}
use Rattle.std.specs.List.{flat_map, list_all}
use Rattle.std.proofs.lemmas.Bool.{not-true}
use Rattle.std.proofs.lemmas.Grind.{flat_map-append}
use Rattle.std.proofs.lemmas.List.{map-append}
use Rattle.std.proofs.lemmas.List.Elements.{All-head, All-tail, filter-append}
use Rattle.std.proofs.lemmas.List.Sums.{take_while-cons}
use Rattle.desk_base.proofs.Bools.{and_left, and_right}
use Rattle.desk_fields.specs.Tags.{same_tag}
use Rattle.desk_fields.specs.declared.tag.Tag.{Tag}
use Rattle.desk_tagvalue.specs.Columns.{AreEach}
use Rattle.desk_tagvalue.specs.Entries.{EntryText, value_of}
use Rattle.desk_tagvalue.specs.Faults.{begins, has_tag}
use Rattle.desk_tagvalue.specs.Parts.{Section, begins_with, head_of, is_inside, section_at, sections_of}
use Rattle.desk_import.specs.Said.{values_of}
use Rattle.desk_import.proofs.Plain.{field}

-- ---- fields that begin no section

pub sections_skip : (fields rest : List EntryText) → list_all is_inside fields ≡ true
    → sections_of (fields ++ rest) ≡ sections_of rest
sections_skip [] rest inside = refl
sections_skip (e ∷ es) rest inside =
    ap (λ b. cond b (section_at e (es ++ rest) ∷ sections_of (es ++ rest)) (sections_of (es ++ rest)))
    (not-true (begins e) (and_left (is_inside e) (list_all is_inside es) inside))
    ∙ sections_skip es rest (and_right (is_inside e) (list_all is_inside es) inside)

head_fields : (fields rest : List EntryText) → list_all is_inside fields ≡ true
    → head_of (fields ++ rest) ≡ fields ++ head_of rest
head_fields [] rest inside = refl
head_fields (e ∷ es) rest inside =
    take_while-cons is_inside e (es ++ rest)
    ∙ ap (λ b. cond b (e ∷ head_of (es ++ rest)) [])
    (and_left (is_inside e) (list_all is_inside es) inside)
    ∙ ap (λ l. e ∷ l)
    (head_fields es rest (and_right (is_inside e) (list_all is_inside es) inside))

-- ---- sections

module _ {A : Type 0} (start : A → EntryText) (fields : A → List EntryText)
    (begun : (a : A) → begins (start a) ≡ true)
    (inside : (a : A) → list_all is_inside (fields a) ≡ true) where
  abbrev block : A → List EntryText
  block a = start a ∷ fields a

  one : (a : A) (rest : List EntryText) → sections_of (block a ++ rest)
      ≡ record { start = start a; fields = fields a ++ head_of rest } ∷ sections_of rest
  one a rest =
      ap (λ b. cond b (section_at (start a) (fields a ++ rest) ∷ sections_of (fields a ++ rest))
      (sections_of (fields a ++ rest))) (begun a)
      ∙ (λ i. record { start = start a; fields = head_fields (fields a) rest (inside a) i }
      ∷ sections_skip (fields a) rest (inside a) i)

  first : (tag : Tag) (x : A) (xs : List A) (rest : List EntryText)
      → filter (begins_with tag) (sections_of (flat_map block (x ∷ xs) ++ rest))
      ≡ filter (begins_with tag) (record {
        start = start x;
        fields = fields x ++ head_of (flat_map block xs ++ rest);
      } ∷ sections_of (flat_map block xs ++ rest))
  first tag x xs rest =
      ap (λ l. filter (begins_with tag) (sections_of l))
      (append_assoc (block x) (flat_map block xs) rest)
      ∙ ap (filter (begins_with tag)) (one x (flat_map block xs ++ rest))

  pub others : (tag : Tag) → ((a : A) → same_tag (start a).tag tag ≡ false) → (xs : List A)
      (rest : List EntryText)
      → filter (begins_with tag) (sections_of (flat_map block xs ++ rest))
      ≡ filter (begins_with tag) (sections_of rest)
  others tag other [] rest = refl
  others tag other (x ∷ xs) rest =
      first tag x xs rest
      ∙ ap (λ b. cond b (record {
        start = start x;
        fields = fields x ++ head_of (flat_map block xs ++ rest);
      } ∷ filter (begins_with tag) (sections_of (flat_map block xs ++ rest)))
      (filter (begins_with tag) (sections_of (flat_map block xs ++ rest)))) (other x)
      ∙ others tag other xs rest

  pub these : {B : Type 0} (tag : Tag) → ((a : A) → same_tag (start a).tag tag ≡ true)
      → (P : A → Type 0) (Is : A → B → Type 0) (says : Section → B)
      → ((a : A) (more : List EntryText) → P a
      → Is a (says (record { start = start a; fields = fields a ++ more })))
      → (xs : List A) → All P xs → (rest : List EntryText)
      → filter (begins_with tag) (sections_of rest) ≡ []
      → AreEach Is xs (map says (filter (begins_with tag) (sections_of (flat_map block xs ++ rest))))
  these tag same P Is says is [] all rest none =
      subst (λ ss. AreEach Is [] (map says ss)) (sym none) tt
  these tag same P Is says is (x ∷ xs) all rest none =
      let more = head_of (flat_map block xs ++ rest) in
      let later = filter (begins_with tag) (sections_of (flat_map block xs ++ rest)) in
      subst (λ ss. AreEach Is (x ∷ xs) (map says ss))
      (sym (first tag x xs rest
      ∙ ap (λ b. cond b (record { start = start x; fields = fields x ++ more } ∷ later) later)
      (same x))) (
        is x more (All-head P x xs all),
        these tag same P Is says is xs (All-tail P x xs all) rest none,
      )

-- ---- the values of a tag

pub values-append : (tag : Tag) (xs ys : List EntryText)
    → values_of tag (xs ++ ys) ≡ values_of tag xs ++ values_of tag ys
values-append tag xs ys =
    ap (map (λ (e : EntryText). e.value)) (filter-append (has_tag tag) xs ys)
    ∙ map-append (λ (e : EntryText). e.value) (filter (has_tag tag) xs) (filter (has_tag tag) ys)

pub values-flat : {A : Type 0} (tag : Tag) (f : A → List EntryText) (xs : List A)
    → values_of tag (flat_map f xs) ≡ flat_map (λ x. values_of tag (f x)) xs
values-flat tag f [] = refl
values-flat tag f (x ∷ xs) = values-append tag (f x) (flat_map f xs)
    ∙ ap (λ l. values_of tag (f x) ++ l) (values-flat tag f xs)

pub flat-none : {A B : Type 0} (f : A → List B) → ((x : A) → f x ≡ []) → (xs : List A)
    → flat_map f xs ≡ []
flat-none f none [] = refl
flat-none f none (x ∷ xs) = (λ i. none x i ++ flat-none f none xs i)

pub flat-same : {A B : Type 0} (f g : A → List B) → ((x : A) → f x ≡ g x) → (xs : List A)
    → flat_map f xs ≡ flat_map g xs
flat-same f g same [] = refl
flat-same f g same (x ∷ xs) = (λ i. same x i ++ flat-same f g same xs i)

pub flat-flat : {A B C : Type 0} (g : B → List C) (f : A → List B) (xs : List A)
    → flat_map g (flat_map f xs) ≡ flat_map (λ x. flat_map g (f x)) xs
flat-flat g f [] = refl
flat-flat g f (x ∷ xs) = flat_map-append g (f x) (flat_map f xs)
    ∙ ap (λ l. flat_map g (f x) ++ l) (flat-flat g f xs)

-- the values of fields that all have one tag
pub values-made : {A : Type 0} (tag : Tag) (value : A → List ℕ) → same_tag tag tag ≡ true
    → (xs : List A) → values_of tag (map (λ x. field tag (value x)) xs) ≡ map value xs
values-made tag value same [] = refl
values-made tag value same (x ∷ xs) =
    ap (λ b. map (λ (e : EntryText). e.value)
    (cond b (field tag (value x) ∷ filter (has_tag tag) (map (λ x. field tag (value x)) xs))
    (filter (has_tag tag) (map (λ x. field tag (value x)) xs)))) same
    ∙ ap (λ l. value x ∷ l) (values-made tag value same xs)

pub values-own : (tag : Tag) → same_tag tag tag ≡ true → (vs : List (List ℕ))
    → values_of tag (map (field tag) vs) ≡ vs
values-own tag same [] = refl
values-own tag same (v ∷ vs) =
    ap (λ b. map (λ (e : EntryText). e.value)
    (cond b (field tag v ∷ filter (has_tag tag) (map (field tag) vs))
    (filter (has_tag tag) (map (field tag) vs)))) same
    ∙ ap (λ l. v ∷ l) (values-own tag same vs)

-- fields that all have another tag
module _ {A : Type 0} (tag t : Tag) (value : A → List ℕ) (other : same_tag t tag ≡ false) where
  pub values-other : (xs : List A) → values_of tag (map (λ x. field t (value x)) xs) ≡ []
  values-other [] = refl
  values-other (x ∷ xs) =
      ap (λ b. map (λ (e : EntryText). e.value)
      (cond b (field t (value x) ∷ filter (has_tag tag) (map (λ x. field t (value x)) xs))
      (filter (has_tag tag) (map (λ x. field t (value x)) xs)))) other
      ∙ values-other xs

  pub value-past : (xs : List A) (rest : List EntryText)
      → value_of tag (map (λ x. field t (value x)) xs ++ rest) ≡ value_of tag rest
  value-past [] rest = refl
  value-past (x ∷ xs) rest =
      ap (λ b. cond b (Some (value x))
      (value_of tag (map (λ x. field t (value x)) xs ++ rest))) other
      ∙ value-past xs rest

pub inside-all : {A : Type 0} (t : Tag) (value : A → List ℕ) → is_inside (field t []) ≡ true
    → (xs : List A) (rest : List EntryText) → list_all is_inside rest ≡ true
    → list_all is_inside (map (λ x. field t (value x)) xs ++ rest) ≡ true
inside-all t value inside [] rest later = later
inside-all t value inside (x ∷ xs) rest later =
    ap (λ b. b && list_all is_inside (map (λ x. field t (value x)) xs ++ rest)) inside
    ∙ inside-all t value inside xs rest later
