-- A loop over rows, and the first of some.
use Rattle.std.proofs.Common.{◌≡◌, ℕ, zero, suc, ◌<◌, Bool, true, false, List, [], ◌∷◌, ◌++◌, map}
use Rattle.std.proofs.Common.{take, length, get_or, filter, find, refl, ap, arith, slice_get, Some}
use Rattle.std.proofs.Common.{IfSome, ◌∙◌}
use Rattle.std.specs.Prelude.{◌==◌, ◌||◌, bytes_eq}
use Rattle.std.specs.List.{AllByRecursion, list_any}
use Rattle.sqlite_value.specs.Order.{Row}
use Rattle.std.specs.Option.{option_map}
use Rattle.desk_model.specs.History.{attached_to}
use Rattle.desk_model.specs.Keys.{is_attachment}
use Rattle.desk_model.specs.declared.row.AttachedRow.{AttachedRow}

pub front_more : {X Y : Type 0} (f : X → Y) (xs : List X) (i : ℕ) (d : Y) → i < length (map f xs)
    → (x : X) × (get_or (map f xs) i d ≡ f x) × (take (suc i) xs ≡ take i xs ++ x ∷ [])
front_more f [] i d low = absurd (omega arith)
front_more f (x ∷ xs) zero d low = (x, refl, refl)
front_more f (x ∷ xs) (suc i) d low = let r = front_more f xs i d (omega arith) in
    (r.0, r.1, ap (λ l. x ∷ l) r.2)

-- the items at one place of two lists, each made of the same list
pub front_two : {X Y Z : Type 0} (f : X → Y) (g : X → Z) (xs : List X) (i : ℕ) (d : Y) (z : Z)
    → i < length (map f xs) → z ≡ get_or (map g xs) i z
    → (x : X) × (get_or (map f xs) i d ≡ f x) × (z ≡ g x) × (take (suc i) xs ≡ take i xs ++ x ∷ [])
front_two f g [] i d z low is = absurd (omega arith)
front_two f g (x ∷ xs) zero d z low is = (x, refl, is, refl)
front_two f g (x ∷ xs) (suc i) d z low is = let r = front_two f g xs i d z (omega arith) is in
    (r.0, r.1, r.2, ap (λ l. x ∷ l) r.3)

pub first_mapped : {X Y : Type 0} (f : X → Y) (p : X → Bool) (xs : List X)
    → slice_get (map f (filter p xs)) 0 ≡ option_map f (find p xs)
first_mapped f p [] = refl
first_mapped {X} f p (x ∷ xs) = go (first_mapped f p xs) (p x) refl
  where
    go : slice_get (map f (filter p xs)) 0 ≡ option_map f (find p xs) → (b : Bool) → p x ≡ b
        → slice_get (map f (filter p (x ∷ xs))) 0 ≡ option_map f (find p (x ∷ xs))
    go more true is = rw is refl
    go more false is = rw is more

pub any_attached : (release : List ℕ) (document : ℕ) (rows : List AttachedRow)
    → list_any (λ row. row.document == document) (attached_to rows release)
    ≡ list_any (is_attachment release document) rows
any_attached release document [] = refl
any_attached release document (x ∷ xs) = go (any_attached release document xs)
    (bytes_eq x.release release) refl
  where
    go : list_any (λ row. row.document == document) (attached_to xs release)
        ≡ list_any (is_attachment release document) xs → (b : Bool) → bytes_eq x.release release ≡ b
        → list_any (λ row. row.document == document) (attached_to (x ∷ xs) release)
        ≡ list_any (is_attachment release document) (x ∷ xs)
    go more true is = rw is (ap (λ b. (x.document == document) || b) more)
    go more false is = rw is more

-- what is true of each row, and of each value whose cells it has, is true at one place
pub at_place : {X : Type 0} (f : X → Row) (P : Row → Type 0) (Q : X → Type 0) (xs : List X)
    (rows : List Row) (i : ℕ) (d : Row) → rows ≡ map f xs → i < length rows → AllByRecursion P rows
    → AllByRecursion Q xs
    → (x : X) × (get_or rows i d ≡ f x) × P (get_or rows i d) × Q x
at_place f P Q [] [] i d is low all each = absurd (omega (arith, low))
at_place f P Q [] (r ∷ rows) i d is low all each = absurd cc
at_place f P Q (x ∷ xs) [] i d is low all each = absurd (omega (arith, low))
at_place f P Q (x ∷ xs) (r ∷ rows) zero d is low all each = let one : r ≡ f x = cc in
    (x, one, all.0, each.0)
at_place f P Q (x ∷ xs) (r ∷ rows) (suc i) d is low all each = let rest : rows ≡ map f xs = cc in
    at_place f P Q xs rows i d rest (omega (arith, low)) all.1 each.1

-- and at the place that a look into the rows found
pub got_place : {X : Type 0} (f : X → Row) (P : Row → Type 0) (Q : X → Type 0) (xs : List X)
    (rows : List Row) (k : ℕ) (row : Row) → rows ≡ map f xs → Some row ≡ slice_get rows k
    → AllByRecursion P rows → AllByRecursion Q xs
    → (x : X) × (row ≡ f x) × P row × Q x
got_place f P Q [] [] k row is got all each = absurd cc
got_place f P Q [] (r ∷ rows) k row is got all each = absurd cc
got_place f P Q (x ∷ xs) [] k row is got all each = absurd cc
got_place f P Q (x ∷ xs) (r ∷ rows) zero row is got all each = let one : r ≡ f x = cc in
    let it : row ≡ r = cc in (x, it ∙ one, rw it all.0, each.0)
got_place f P Q (x ∷ xs) (r ∷ rows) (suc k) row is got all each = let rest : rows ≡ map f xs = cc in
    got_place f P Q xs rows k row rest got all.1 each.1

pub first_value : {X : Type 0} (f : X → Row) (xs : List X) (rows : List Row) (row : Row)
    → rows ≡ map f xs → Some row ≡ slice_get rows 0
    → (x : X) × (row ≡ f x) × (Some x ≡ slice_get xs 0)
first_value f [] [] row is first = absurd cc
first_value f [] (r ∷ rows) row is first = absurd cc
first_value f (x ∷ xs) [] row is first = absurd cc
first_value f (x ∷ xs) (r ∷ rows) row is first = let one : r ≡ f x = cc in let it : row ≡ r = cc in
    (x, it ∙ one, refl)

pub passed_first : {X : Type 0} (p : X → Bool) (Q : X → Type 0) → ((x : X) → p x ≡ true → Q x)
    → (xs : List X) → IfSome (slice_get (filter p xs) 0) Q
passed_first p Q right [] = tt
passed_first {X} p Q right (x ∷ xs) = go (passed_first p Q right xs) (p x) refl
  where
    go : IfSome (slice_get (filter p xs) 0) Q → (b : Bool) → p x ≡ b
        → IfSome (slice_get (filter p (x ∷ xs)) 0) Q
    go more true is = rw is (right x is)
    go more false is = rw is more

pub passed_mapped : {X Y : Type 0} (f : X → Y) (p : X → Bool) (Q : Y → Type 0)
    → ((x : X) → p x ≡ true → Q (f x)) → (xs : List X)
    → IfSome (slice_get (map f (filter p xs)) 0) Q
passed_mapped f p Q right [] = tt
passed_mapped {X} f p Q right (x ∷ xs) = go (passed_mapped f p Q right xs) (p x) refl
  where
    go : IfSome (slice_get (map f (filter p xs)) 0) Q → (b : Bool) → p x ≡ b
        → IfSome (slice_get (map f (filter p (x ∷ xs))) 0) Q
    go more true is = rw is (right x is)
    go more false is = rw is more

-- the rows at one place of two lists, each made of the same list
pub at_two : {X : Type 0} (f g : X → Row) (P : Row → Type 0) (xs : List X) (rows others : List Row)
    (i : ℕ) (d e : Row) → rows ≡ map f xs → others ≡ map g xs → i < length rows
    → AllByRecursion P rows → AllByRecursion P others
    → (x : X) × (get_or rows i d ≡ f x) × P (get_or rows i d) × (get_or others i e ≡ g x)
    × P (get_or others i e)
at_two f g P xs [] others i d e is are low all each = absurd (omega (arith, low))
at_two f g P [] (r ∷ rows) others i d e is are low all each = absurd cc
at_two f g P (x ∷ xs) (r ∷ rows) [] i d e is are low all each = absurd cc
at_two f g P (x ∷ xs) (r ∷ rows) (o ∷ others) zero d e is are low all each = let one : r ≡ f x =
    cc in let two : o ≡ g x = cc in (x, one, all.0, two, each.0)
at_two f g P (x ∷ xs) (r ∷ rows) (o ∷ others) (suc i) d e is are low all each =
    let rest : rows ≡ map f xs = cc in let more : others ≡ map g xs = cc in
    at_two f g P xs rows others i d e rest more (omega (arith, low)) all.1 each.1
