-- The first entries of some that are for a subject.
use Rattle.std.proofs.Common.{◌≡◌, ◌∙◌, ℕ, ◌+◌, Bool, true, false, cond, List, [], ◌∷◌, ◌++◌}
use Rattle.std.proofs.Common.{map, Option, Some, None, sym, ap, refl, arith}
use Rattle.std.specs.Prelude.{◌||◌, ◌&&◌, not, find, min, option_map}
use Rattle.std.specs.List.{flat_map, position_or_len, slice_get}
use Rattle.std.specs.Str.{bytes_eq}
use Rattle.std.proofs.lemmas.List.{map-append}
use Rattle.std.proofs.lemmas.List.Folds.{find_at}
use Rattle.std.proofs.lemmas.Option.{slice_get-map}
use Rattle.desk_base.proofs.Texts.{texts_turned}
use Rattle.desk_model.specs.declared.bill.BillLine.{BillLine}
use Rattle.desk_model.specs.declared.reading.LicenceText.{LicenceText}
use Rattle.desk_fill.proofs.SubjectLemmas.{same_title}
use Rattle.desk_fill.specs.Filling.{credit_for, fits, is_text_of, is_version, text_for}
use Rattle.desk_fill.specs.Subjects.{Entry, credit_entries, credit_entry, is_of, subject_of_credit}
use Rattle.desk_fill.specs.Subjects.{subject_of_text, subject_of_title, text_entries, text_entry}
use Rattle.desk_fill.specs.Values.{is_same_version}
use Rattle.desk_fill.specs.declared.fill.Credit.{Credit}
use Rattle.desk_fill.specs.declared.fill.Fill.{Fill}
use Rattle.desk_fill.specs.declared.subjects.Subject.{Subject}

-- ---- lists

flat_mapped : {A X Y : Type 0} (of : A → List X) (g : X → Y) (all : List A)
    → flat_map (λ a. map g (of a)) all ≡ map g (flat_map of all)
flat_mapped of g [] = refl
flat_mapped of g (a ∷ rest) = ap (λ l. map g (of a) ++ l) (flat_mapped of g rest)
    ∙ sym (map-append g (of a) (flat_map of rest))

place_alike : {X : Type 0} (p q : X → Bool) → ((x : X) → p x ≡ q x) → (xs : List X)
    → position_or_len p xs ≡ position_or_len q xs
place_alike p q same [] = refl
place_alike p q same (x ∷ xs) = λ i. cond (not (same x i)) (1 + place_alike p q same xs i) 0

place_mapped : {X Y : Type 0} (f : X → Y) (p : Y → Bool) (xs : List X)
    → position_or_len p (map f xs) ≡ position_or_len (λ x. p (f x)) xs
place_mapped f p [] = refl
place_mapped f p (x ∷ xs) = ap (λ n. cond (not (p (f x))) (1 + n) 0) (place_mapped f p xs)

by_first : (b c : Bool) (m n k : ℕ) → min m n ≡ k
    → min (cond (not b) (1 + m) 0) (cond (not c) (1 + n) 0) ≡ cond (not (b || c)) (1 + k) 0
by_first true true m n k is = refl
by_first true false m n k is = omega arith
by_first false true m n k is = omega arith
by_first false false m n k is = omega arith

place_either : {X : Type 0} (p q : X → Bool) (xs : List X)
    → min (position_or_len p xs) (position_or_len q xs) ≡ position_or_len (λ x. p x || q x) xs
place_either p q [] = refl
place_either p q (x ∷ xs) = by_first (p x) (q x) (position_or_len p xs) (position_or_len q xs)
    (position_or_len (λ y. p y || q y) xs) (place_either p q xs)

-- ---- what is found at the first place

module _ {X : Type 0} (of : X → Subject) (say : X → List ℕ) (xs : List X) where
  abbrev entries : List Entry
  entries = map (λ x. (of x, say x)) xs

  of_entries : (p : Subject → Bool)
      → position_or_len p (map (λ (e : Entry). e.0) entries) ≡ position_or_len (λ x. p (of x)) xs
  of_entries p = place_mapped (λ (e : Entry). e.0) p entries
      ∙ place_mapped (λ x. (of x, say x)) (λ (e : Entry). p e.0) xs

  at_place : (i : ℕ) → slice_get (map (λ (e : Entry). e.1) entries) i ≡ option_map say (slice_get xs i)
  at_place i = slice_get-map (λ (e : Entry). e.1) entries i
      ∙ ap (option_map (λ (e : Entry). e.1)) (slice_get-map (λ x. (of x, say x)) xs i)
      ∙ again (slice_get xs i)
    where
      again : (o : Option X)
          → option_map (λ (e : Entry). e.1) (option_map (λ x. (of x, say x)) o) ≡ option_map say o
      again None = refl
      again (Some x) = refl

  -- the first of two subjects
  found_either : (s t : Subject) (p : X → Bool) → ((x : X) → (is_of s (of x) || is_of t (of x)) ≡ p x)
      → slice_get (map (λ (e : Entry). e.1) entries)
      (min (position_or_len (is_of s) (map (λ (e : Entry). e.0) entries))
      (position_or_len (is_of t) (map (λ (e : Entry). e.0) entries)))
      ≡ option_map say (find p xs)
  found_either s t p is =
      at_place _ ∙ ap (λ n. option_map say (slice_get xs n))
      ((λ i. min (of_entries (is_of s) i) (of_entries (is_of t) i))
      ∙ place_either (λ x. is_of s (of x)) (λ x. is_of t (of x)) xs ∙ place_alike _ p is xs)
      ∙ sym (ap (option_map say) (find_at p xs))

  -- the first of one
  found_one : (s : Subject) (p : X → Bool) → ((x : X) → is_of s (of x) ≡ p x)
      → slice_get (map (λ (e : Entry). e.1) entries)
      (position_or_len (is_of s) (map (λ (e : Entry). e.0) entries)) ≡ option_map say (find p xs)
  found_one s p is =
      at_place _ ∙ ap (λ n. option_map say (slice_get xs n))
      (of_entries (is_of s) ∙ place_alike _ p is xs)
      ∙ sym (ap (option_map say) (find_at p xs))

-- ---- credits and texts

any_or : (a b : Bool) → a ≡ b → ((a && true) || (a && false)) ≡ (b && true)
any_or true b is = ap (λ x. x && true) is
any_or false b is = ap (λ x. x && true) is

own_or : (a b c d : Bool) → a ≡ b → c ≡ d → ((a && false) || (a && c)) ≡ (b && d)
own_or true b c d is same = (λ i. is i && same i)
own_or false b c d is same = ap (λ x. x && d) is

none_or : (a b : Bool) → ((a && b) || (a && b)) ≡ (a && b)
none_or true true = refl
none_or true false = refl
none_or false b = refl

abbrev pub any_of : BillLine → Subject
any_of line = record { name = line.name; version = None }

abbrev pub own_of : BillLine → Subject
own_of line = record { name = line.name; version = line.version }

module _ (line : BillLine) where
  fits_by : (credit : Credit) (given version : Option (List ℕ))
      → ((bytes_eq line.name credit.name && is_same_version None version)
      || (bytes_eq line.name credit.name && is_same_version given version))
      ≡ (bytes_eq credit.name line.name && is_version version given)
  fits_by credit None None = none_or (bytes_eq line.name credit.name) true
      ∙ ap (λ b. b && true) (texts_turned line.name credit.name)
  fits_by credit None (Some w) = none_or (bytes_eq line.name credit.name) false
      ∙ ap (λ b. b && false) (texts_turned line.name credit.name)
  fits_by credit (Some v) None = any_or _ _ (texts_turned line.name credit.name)
  fits_by credit (Some v) (Some w) = own_or _ _ _ _ (texts_turned line.name credit.name)
      (texts_turned v w)

  pub credit_found : (fills : List Fill)
      → slice_get (map (λ (e : Entry). e.1) (credit_entries fills))
      (min (position_or_len (is_of (any_of line)) (map (λ (e : Entry). e.0) (credit_entries fills)))
      (position_or_len (is_of (own_of line)) (map (λ (e : Entry). e.0) (credit_entries fills))))
      ≡ credit_for fills line
  credit_found fills =
      let all = flat_mapped (λ (f : Fill). f.credits) credit_entry fills in
      ap (λ es. slice_get (map (λ (e : Entry). e.1) es)
      (min (position_or_len (is_of (any_of line)) (map (λ (e : Entry). e.0) es))
      (position_or_len (is_of (own_of line)) (map (λ (e : Entry). e.0) es)))) all
      ∙ found_either subject_of_credit (λ (c : Credit). c.text) (flat_map (λ fill. fill.credits) fills)
      (any_of line) (own_of line) (fits line) (λ credit. fits_by credit line.version credit.version)

pub text_found : (title : List ℕ) (fills : List Fill)
    → slice_get (map (λ (e : Entry). e.1) (text_entries fills))
    (position_or_len (is_of (subject_of_title title)) (map (λ (e : Entry). e.0) (text_entries fills)))
    ≡ text_for fills title
text_found title fills =
    let all = flat_mapped (λ (f : Fill). f.texts) text_entry fills in
    ap (λ es. slice_get (map (λ (e : Entry). e.1) es)
    (position_or_len (is_of (subject_of_title title)) (map (λ (e : Entry). e.0) es))) all
    ∙ found_one subject_of_text (λ (t : LicenceText). t.body) (flat_map (λ fill. fill.texts) fills)
    (subject_of_title title) (is_text_of title) (λ (text : LicenceText). same_title title text.title)
