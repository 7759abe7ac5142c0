-- The first place of a subject among some.
use Rattle.std.proofs.Common.{◌≡◌, ◌∙◌, ℕ, ◌+◌, Bool, true, false, cond, List, [], ◌∷◌, ◌++◌}
use Rattle.std.proofs.Common.{length, map, Option, Some, None, sym, ap, refl, arith, nat_cmp, is_eq}
use Rattle.std.proofs.Common.{inl, inr}
use Rattle.std.specs.Char.{to_ascii_lowercase}
use Rattle.std.specs.Prelude.{◌||◌, ◌&&◌, ◌≤◌, codes, drop, nat_eq, not, is_some, unwrap_or}
use Rattle.std.specs.BTreeMap.{BTreeMap, get, Updates}
use Rattle.std.specs.Cmp.Lexicographic.{slice_cmp}
use Rattle.std.specs.List.{starts_with, list_any, position_from, position_or_len}
use Rattle.std.specs.Option.{option_cmp, option_or}
use Rattle.std.specs.Str.{bytes_eq}
use Rattle.std.proofs.lemmas.Bool.{cases_Bool}
use Rattle.std.proofs.lemmas.Bool.Decides.{nat_tests}
use Rattle.std.proofs.lemmas.Map.Text.{is_eq-slice_cmp}
use Rattle.std.proofs.lemmas.Slice.Eq.{bytes_eq-Decides}
use Rattle.desk_base.proofs.Orders.{either_equal}
use Rattle.desk_base.proofs.Texts.{texts_equal, texts_turned}
use Rattle.desk_base.specs.Folded.{folded}
use Rattle.desk_tokens.specs.Words.{is_local_reference, is_reference, is_reference_of_document}
use Rattle.desk_fill.specs.Filling.{is_same_name}
use Rattle.desk_fill.specs.Subjects.{Knows, is_of, subject_cmp, subject_of_title}
use Rattle.desk_fill.specs.Values.{is_same_version}
use Rattle.desk_fill.specs.declared.subjects.Subject.{Subject}

-- ---- the order of subjects

same_version : (a b : Option (List ℕ))
    → is_eq (option_cmp (slice_cmp nat_cmp) a b) ≡ is_same_version a b
same_version None None = refl
same_version None (Some b) = refl
same_version (Some a) None = refl
same_version (Some a) (Some b) = is_eq-slice_cmp a b

pub at_subject : (a b : Subject) → is_eq (subject_cmp a b) ≡ is_of a b
at_subject a b = either_equal (slice_cmp nat_cmp a.name b.name)
    (option_cmp (slice_cmp nat_cmp) a.version b.version)
    ∙ (λ i. is_eq-slice_cmp a.name b.name i && same_version a.version b.version i)

equal_version : (a b : Option (List ℕ)) → is_same_version a b ≡ true → a ≡ b
equal_version None None is = refl
equal_version None (Some b) is = cc
equal_version (Some a) None is = cc
equal_version (Some a) (Some b) is = ap Some (texts_equal a b is)

parts : (a b : Bool) → (a && b) ≡ true → (a ≡ true) × (b ≡ true)
parts true b is = (refl, is)
parts false b is = cc

pub equal_subject : (a b : Subject) → is_of a b ≡ true → a ≡ b
equal_subject a b is =
    let both = parts (bytes_eq a.name b.name) (is_same_version a.version b.version) is in
    let name : a.name ≡ b.name = texts_equal a.name b.name both.0 in
    let version : a.version ≡ b.version = equal_version a.version b.version both.1 in
    (λ i. record { name = name i; version = version i })

-- a subject is of itself
one_version : (a : Option (List ℕ)) → is_same_version a a ≡ true
one_version None = refl
one_version (Some a) = (bytes_eq-Decides a a).1 refl

itself : (a : Subject) → is_of a a ≡ true
itself a = (λ i. (bytes_eq-Decides a.name a.name).1 refl i && one_version a.version i)

turned : (a b : Subject) → is_of a b ≡ is_of b a
turned a b = elim (cases_Bool (is_of a b)) [
  | inl is ↦ ap (λ x. is_of x b) (equal_subject a b is) ∙ ap (is_of b) (sym (equal_subject a b is))
  | inr not_is ↦ elim (cases_Bool (is_of b a)) [
    | inl is ↦ ap (λ x. is_of a x) (equal_subject b a is) ∙ ap (λ x. is_of x a) (sym (equal_subject b a is))
    | inr also ↦ not_is ∙ sym also
  ]
]

-- ---- the first place

or_none : {X : Type 0} (o : Option X) → option_or o None ≡ o
or_none None = refl
or_none (Some x) = refl

push_by : (b c : Bool) (i n : ℕ) (o o' : Option ℕ) → o' ≡ option_or o (cond c (Some n) None)
    → cond b (Some i) o' ≡ option_or (cond b (Some i) o) (cond c (Some n) None)
push_by true c i n o o' is = refl
push_by false c i n o o' is = is

any_by : (b c : Bool) (i : ℕ) (o : Option ℕ) → is_some o ≡ c → is_some (cond b (Some i) o) ≡ (b || c)
any_by true c i o is = refl
any_by false c i o is = is

length_by : (b : Bool) (i n m : ℕ) (o : Option ℕ) → unwrap_or o (i + 1 + n) ≡ i + 1 + m
    → unwrap_or (cond b (Some i) o) (i + (1 + n)) ≡ i + cond (not b) (1 + m) 0
length_by true i n m o is = omega arith
length_by false i n m o is = let e : i + (1 + n) ≡ i + 1 + n = omega arith in
    ap (unwrap_or o) e ∙ is ∙ omega arith

module _ {X : Type 0} (p : X → Bool) where
  from_push : (i : ℕ) (xs : List X) (x : X) → position_from p i (xs ++ x ∷ [])
      ≡ option_or (position_from p i xs) (cond (p x) (Some (i + length xs)) None)
  from_push i [] x = ap (λ n. cond (p x) (Some n) None) (omega arith)
  from_push i (y ∷ xs) x =
      let n : i + 1 + length xs ≡ i + length (y ∷ xs) = omega arith in
      push_by (p y) (p x) i (i + length (y ∷ xs)) (position_from p (i + 1) xs)
      (position_from p (i + 1) (xs ++ x ∷ []))
      (from_push (i + 1) xs x
      ∙ ap (λ n. option_or (position_from p (i + 1) xs) (cond (p x) (Some n) None)) n)

  some_any : (i : ℕ) (xs : List X) → is_some (position_from p i xs) ≡ list_any p xs
  some_any i [] = refl
  some_any i (y ∷ xs) = any_by (p y) (list_any p xs) i (position_from p (i + 1) xs)
      (some_any (i + 1) xs)

  -- no place, or the number of all
  or_length : (i : ℕ) (xs : List X)
      → unwrap_or (position_from p i xs) (i + length xs) ≡ i + position_or_len p xs
  or_length i [] = refl
  or_length i (y ∷ xs) =
      let n : i + length (y ∷ xs) ≡ i + (1 + length xs) = omega arith in
      ap (unwrap_or (cond (p y) (Some i) (position_from p (i + 1) xs))) n
      ∙ length_by (p y) i (length xs) (position_or_len p xs) (position_from p (i + 1) xs)
      (or_length (i + 1) xs)

pub place_or_length : {X : Type 0} (p : X → Bool) (xs : List X)
    → unwrap_or (position_from p 0 xs) (length xs) ≡ position_or_len p xs
place_or_length p xs =
    let all : length xs ≡ 0 + length xs = omega arith in
    ap (unwrap_or (position_from p 0 xs)) all ∙ or_length p 0 xs ∙ omega arith

-- ---- what a map knows

module _ (subjects : List Subject) (m : BTreeMap Subject ℕ) (knows : Knows subjects m)
    (s : Subject) where
  pub is_there : is_some (get subject_cmp m s) ≡ list_any (is_of s) subjects
  is_there = ap is_some (knows s) ∙ some_any (is_of s) 0 subjects

  -- one more subject, which is there
  pub knows_again : is_some (get subject_cmp m s) ≡ true → Knows (subjects ++ s ∷ []) m
  knows_again there q = knows q ∙ sym (from_push (is_of q) 0 subjects s ∙ by (is_of q s) refl)
    where
      found : (o : Option ℕ) (x : Option ℕ) → is_some o ≡ true → option_or o x ≡ o
      found None x is = cc
      found (Some n) x is = refl

      by : (b : Bool) → is_of q s ≡ b → option_or (position_from (is_of q) 0 subjects)
          (cond b (Some (0 + length subjects)) None) ≡ position_from (is_of q) 0 subjects
      by true is = found _ _ (ap is_some (sym (knows q))
          ∙ ap (λ x. is_some (get subject_cmp m x)) (equal_subject q s is) ∙ there)
      by false is = or_none (position_from (is_of q) 0 subjects)

  -- one more subject, which is put where it stands
  pub knows_more : is_some (get subject_cmp m s) ≡ false → (place : ℕ) → place ≡ length subjects
      → (n : BTreeMap Subject ℕ) → Updates subject_cmp m n s (Some place)
      → Knows (subjects ++ s ∷ []) n
  knows_more away place at n put q = put.0 q ∙ by (is_of s q) refl
      ∙ sym (from_push (is_of q) 0 subjects s)
    where
      none : (o : Option ℕ) (x : Option ℕ) → is_some o ≡ false → x ≡ option_or o x
      none None x is = refl
      none (Some n) x is = cc

      by : (b : Bool) → is_of s q ≡ b → cond (is_eq (subject_cmp s q)) (Some place) (get subject_cmp m q)
          ≡ option_or (position_from (is_of q) 0 subjects)
          (cond (is_of q s) (Some (0 + length subjects)) None)
      by true is =
          let same : s ≡ q = equal_subject s q is in
          ap (λ b. cond b (Some place) (get subject_cmp m q)) (at_subject s q ∙ is)
          ∙ ap Some (omega arith)
          ∙ none (position_from (is_of q) 0 subjects) _ (ap is_some (sym (knows q))
          ∙ ap (λ x. is_some (get subject_cmp m x)) (sym same) ∙ away)
          ∙ ap (λ b. option_or (position_from (is_of q) 0 subjects)
          (cond b (Some (0 + length subjects)) None)) (sym (turned q s ∙ is))
      by false is =
          ap (λ b. cond b (Some place) (get subject_cmp m q)) (at_subject s q ∙ is)
          ∙ knows q ∙ sym (or_none (position_from (is_of q) 0 subjects))
          ∙ ap (λ b. option_or (position_from (is_of q) 0 subjects)
          (cond b (Some (0 + length subjects)) None)) (sym (turned q s ∙ is))

-- ---- the subjects of entries

pub map_more : {X Y : Type 0} (f : X → Y) (xs : List X) (x : X)
    → map f xs ++ f x ∷ [] ≡ map f (xs ++ x ∷ [])
map_more f [] x = refl
map_more f (y ∷ xs) x = ap (λ l. f y ∷ l) (map_more f xs x)

pub any_mapped : {X Y : Type 0} (f : X → Y) (p : Y → Bool) (xs : List X)
    → list_any p (map f xs) ≡ list_any (λ x. p (f x)) xs
any_mapped f p [] = refl
any_mapped f p (x ∷ xs) = ap (λ b. p (f x) || b) (any_mapped f p xs)

pub unless : (new there : Bool) → new ≡ not there → not new ≡ there
unless new true is = ap not is
unless new false is = ap not is

pub any_alike : {X : Type 0} (p q : X → Bool) → ((x : X) → p x ≡ q x) → (xs : List X)
    → list_any p xs ≡ list_any q xs
any_alike p q same [] = refl
any_alike p q same (x ∷ xs) = λ i. same x i || any_alike p q same xs i

-- ---- the names of texts

-- capitals are not left in a folded text
apart : (x y : ℕ) → 65 ≤ x → x ≤ 90 → nat_eq x (to_ascii_lowercase y) ≡ false
apart x y from to = grind (arith, nat_tests)

front : (c x : ℕ) (more : Bool) → (nat_eq c x && more) ≡ true → c ≡ x
front c x more is = let e : nat_eq c x ≡ true = (parts (nat_eq c x) more is).0 in grind (arith, nat_tests)

either : (a b : Bool) → (a || b) ≡ true → a ≡ false → b ≡ true
either a b is no_a = sym (ap (λ x. x || b) no_a) ∙ is

first_of_reference : (x : ℕ) (xs : List ℕ) → is_reference (x ∷ xs) ≡ true → (65 ≤ x) × (x ≤ 90)
first_of_reference x xs is = elim (cases_Bool (is_local_reference (x ∷ xs))) [
  | inl local ↦ let e : 76 ≡ x = front 76 x _ (parts _ _ local).0 in (omega arith, omega arith)
  | inr other ↦
      let far : (starts_with nat_eq (x ∷ xs) (codes "DocumentRef-")
      && is_reference_of_document (drop 12 (x ∷ xs))) ≡ true = either (is_local_reference (x ∷ xs))
      (starts_with nat_eq (x ∷ xs) (codes "DocumentRef-")
      && is_reference_of_document (drop 12 (x ∷ xs))) is other in
      let e : 68 ≡ x = front 68 x _ (parts _ _ far).0 in (omega arith, omega arith)
]

unlike : (a b : List ℕ) → is_reference a ≡ true → is_reference b ≡ false → bytes_eq a b ≡ false
unlike a b is other = elim (cases_Bool (bytes_eq a b)) [
  | inl same ↦ absurd (let e : true ≡ false = sym is ∙ ap is_reference (texts_equal a b same) ∙ other in cc)
  | inr differs ↦ differs
]

-- a reference is no folded id
no_folded : (a b : List ℕ) → is_reference a ≡ true → bytes_eq a (folded b) ≡ false
no_folded [] b is = cc
no_folded (x ∷ xs) [] is = refl
no_folded (x ∷ xs) (y ∷ ys) is =
    let within = first_of_reference x xs is in
    ap (λ b. b && bytes_eq xs (folded ys)) (apart x y within.0 within.1)

pub same_title : (a b : List ℕ) → is_of (subject_of_title a) (subject_of_title b) ≡ is_same_name a b
same_title a b = by (is_reference a) (is_reference b) refl refl
  where
    alone : (b : Bool) → (b && true) ≡ b
    alone true = refl
    alone false = refl

    by : (q r : Bool) → is_reference a ≡ q → is_reference b ≡ r
        → (bytes_eq (cond q a (folded a)) (cond r b (folded b)) && true)
        ≡ cond (q || r) (bytes_eq a b) (bytes_eq (folded a) (folded b))
    by true true qa rb = alone (bytes_eq a b)
    by false false qa rb = alone (bytes_eq (folded a) (folded b))
    by true false qa rb = alone (bytes_eq a (folded b)) ∙ no_folded a b qa ∙ sym (unlike a b qa rb)
    by false true qa rb = alone (bytes_eq (folded a) b)
        ∙ texts_turned (folded a) b ∙ no_folded b a rb ∙ sym (texts_turned a b ∙ unlike b a rb qa)
