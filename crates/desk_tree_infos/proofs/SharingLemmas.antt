-- Annotations by their numbers.
use Rattle.std.proofs.Common.{◌≡◌, ◌∙◌, ℕ, ◌+◌, ◌<◌, ◌==◌, suc, false, List, [], ◌∷◌, ◌++◌, length}
use Rattle.std.proofs.Common.{get_or, take, drop, sym, ap, refl, append_assoc, arith}
use Rattle.std.specs.Prelude.{Option, Some, None, option_to_list, option_and_then}
use Rattle.std.specs.List.{slice_get, flat_map, cons_option}
use Rattle.std.proofs.lemmas.Bool.{false≢true}
use Rattle.std.proofs.lemmas.Bool.Decides.{nat_tests}
use Rattle.std.proofs.lemmas.List.{append-nil, drop_more, take_more}
use Rattle.std.proofs.lemmas.List.Concat.{flat_map-append}
use Rattle.std.proofs.lemmas.List.Elements.{filter_map-append}
use Rattle.desk_tree_annotations.specs.declared.annotation.Annotation.{Annotation}
use Rattle.desk_tree_infos.specs.declared.information.Subject.{Subject}
use Rattle.desk_tree_infos.specs.Information.{texts_of}
use Rattle.desk_tree_infos.specs.Sharing.{annotations_at, texts_at, is_none}

at_end : {A : Type 0} (xs : List A) (x : A) (more : List A)
    → slice_get (xs ++ x ∷ more) (length xs) ≡ Some x
at_end [] x more = refl
at_end (y ∷ ys) x more = at_end ys x more

-- one more number
pub annotations_at-push : (all : List Annotation) (numbers : List ℕ) (number : ℕ) (a : Annotation)
    → slice_get all number ≡ Some a
    → annotations_at all (numbers ++ number ∷ []) ≡ annotations_at all numbers ++ a ∷ []
annotations_at-push all numbers number a is =
    filter_map-append (slice_get all) numbers (number ∷ [])
    ∙ ap (λ o. annotations_at all numbers ++ cons_option o []) is

-- an annotation is added after all others, and its number after other numbers
pub grown : (all : List Annotation) (numbers : List ℕ) (a : Annotation)
    (done more : List Annotation)
    → ((behind : List Annotation) → annotations_at (all ++ behind) numbers ≡ done)
    → annotations_at ((all ++ a ∷ []) ++ more) (numbers ++ length all ∷ []) ≡ done ++ a ∷ []
grown all numbers a done more so_far =
    ap (λ l. annotations_at l (numbers ++ length all ∷ [])) (append_assoc all (a ∷ []) more)
    ∙ annotations_at-push (all ++ a ∷ more) numbers (length all) a (at_end all a more)
    ∙ ap (λ l. l ++ a ∷ []) (so_far (a ∷ more))

-- the first of some numbers
pub annotations_at-drop : (all : List Annotation) (numbers : List ℕ) (i d : ℕ) → i < length numbers
    → annotations_at all (drop i numbers)
    ≡ cons_option (slice_get all (get_or numbers i d)) (annotations_at all (drop (i + 1) numbers))
annotations_at-drop all numbers i d within = ap (annotations_at all) (drop_more numbers i d within)

-- the annotation with a number, or none
pub annotations_at-option : (all : List Annotation) (number : Option ℕ)
    → annotations_at all (option_to_list number)
    ≡ option_to_list (option_and_then (slice_get all) number)
annotations_at-option all None = refl
annotations_at-option all (Some number) = one (slice_get all number)
  where
    one : (o : Option Annotation) → cons_option o [] ≡ option_to_list o
    one None = refl
    one (Some a) = refl

-- ---- their texts

pub texts_at-append : (all : List Annotation) (of : Subject) (numbers more : List ℕ)
    → texts_at all of (numbers ++ more) ≡ texts_at all of numbers ++ texts_at all of more
texts_at-append all of numbers more =
    ap (flat_map (texts_of of)) (filter_map-append (slice_get all) numbers more)
    ∙ flat_map-append (texts_of of) (annotations_at all numbers) (annotations_at all more)

-- those of one more number
pub texts_at-take : (all : List Annotation) (of : Subject) (numbers : List ℕ) (i d : ℕ)
    → i < length numbers
    → texts_at all of (take i numbers) ++ texts_at all of (get_or numbers i d ∷ [])
    ≡ texts_at all of (take (i + 1) numbers)
texts_at-take all of numbers i d within =
    sym (texts_at-append all of (take i numbers) (get_or numbers i d ∷ []))
    ∙ ap (texts_at all of) (sym (take_more numbers i d within))

-- those of one annotation
pub texts_at-one : (all : List Annotation) (of : Subject) (number : ℕ) (a : Annotation)
    → slice_get all number ≡ Some a → texts_at all of (number ∷ []) ≡ texts_of of a
texts_at-one all of number a is = ap (λ o. flat_map (texts_of of) (cons_option o [])) is
    ∙ append-nil (texts_of of a)

-- those of the first number and of the others
pub texts_at-drop : (all : List Annotation) (of : Subject) (numbers : List ℕ) (i d : ℕ)
    → i < length numbers
    → texts_at all of (drop i numbers) ≡ texts_at all of (get_or numbers i d ∷ [])
    ++ texts_at all of (drop (i + 1) numbers)
texts_at-drop all of numbers i d within =
    ap (texts_at all of) (drop_more numbers i d within)
    ∙ first (slice_get all (get_or numbers i d)) (annotations_at all (drop (i + 1) numbers))
  where
    first : (o : Option Annotation) (more : List Annotation)
        → flat_map (texts_of of) (cons_option o more) ≡ flat_map (texts_of of) (cons_option o [])
        ++ flat_map (texts_of of) more
    first None more = refl
    first (Some a) more = ap (λ l. l ++ flat_map (texts_of of) more)
        (sym (append-nil (texts_of of a)))

-- ---- whether there are none

not_zero : (n : ℕ) → (suc n == 0) ≡ false
not_zero n = grind (arith, nat_tests)

pub none_test : (xs : List (List ℕ)) → (length xs == 0) ≡ is_none xs
none_test [] = refl
none_test (x ∷ xs) = not_zero (length xs)

some_first : (xs ys : List (List ℕ)) → is_none xs ≡ false → is_none (xs ++ ys) ≡ false
some_first [] ys is = absurd (false≢true (sym is))
some_first (x ∷ xs) ys is = refl

-- there are some at a number
pub some_there : (all : List Annotation) (of : Subject) (numbers : List ℕ) (i d : ℕ)
    (own : List (List ℕ)) → i < length numbers
    → is_none (texts_at all of (get_or numbers i d ∷ [])) ≡ false
    → is_none (texts_at all of (drop i numbers) ++ own) ≡ false
some_there all of numbers i d own within some =
    ap (λ l. is_none (l ++ own)) (texts_at-drop all of numbers i d within)
    ∙ ap is_none (append_assoc (texts_at all of (get_or numbers i d ∷ []))
    (texts_at all of (drop (i + 1) numbers)) own)
    ∙ some_first (texts_at all of (get_or numbers i d ∷ []))
    (texts_at all of (drop (i + 1) numbers) ++ own) some
