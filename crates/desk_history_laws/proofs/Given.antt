-- What commands give, in the order in which they were recorded.
use Rattle.std.proofs.Common.{◌≡◌, ℕ, ◌+◌, List, [], ◌∷◌, ◌++◌, length, map, Option, Some, None}
use Rattle.std.proofs.Common.{refl, ap, ◌∙◌, sym, arith, append-nil}
use Rattle.std.specs.Prelude.{reverse, filter, cond, Bool, true, false, if◌then◌else◌}
use Rattle.std.specs.List.{filter_map, cons_option, last_or, enumerate_from}
use Rattle.std.proofs.lemmas.List.{reverse-append, map-append}
use Rattle.std.proofs.lemmas.List.Elements.{filter_map-append, filter-append}
use Rattle.desk_base.proofs.Lists.{numbered_push}
use Rattle.desk_model.specs.Lists.{latest, or_else}
use Rattle.desk_model.specs.declared.command.Command.{Command}
use Rattle.desk_history_laws.specs.Filters.{given, last_given}

-- what the newest command gives comes last
pub given-cons : {A : Type 0} (f : Command → Option A) (c : Command) (h : List Command)
    → given f (c ∷ h) ≡ given f h ++ cons_option (f c) []
given-cons f c h = ap (filter_map f) (reverse-append (c ∷ []) h)
    ∙ filter_map-append f (reverse h) (c ∷ [])

-- a command that gives nothing
pub given_nothing : {A : Type 0} (f : Command → Option A) (c : Command) (h : List Command)
    → f c ≡ None → given f (c ∷ h) ≡ given f h
given_nothing f c h e = given-cons f c h
    ∙ (ap (λ o. given f h ++ cons_option o []) e ∙ append-nil (given f h))

last_or-push : {A : Type 0} (o : Option A) (xs : List A) (p : Option A)
    → last_or o (xs ++ cons_option p []) ≡ or_else p (last_or o xs)
last_or-push o [] None = refl
last_or-push o [] (Some x) = refl
last_or-push o (y ∷ ys) p = last_or-push (Some y) ys p

-- the newest entry that gives something is the last of what is given
pub latest-last : {A : Type 0} (f : Command → Option A) (h : List Command)
    → latest f h ≡ last_given f h
latest-last f [] = refl
latest-last f (c ∷ h) =
    ap (or_else (f c)) (latest-last f h)
    ∙ (sym (last_or-push None (given f h) (f c))
    ∙ ap (last_or None) (sym (given-cons f c h)))

-- rows made of what is given, numbered from 1
pub rows-push : {A B : Type 0} (row : ℕ × A → B) (xs : List A) (x : A)
    → map row (enumerate_from 1 (xs ++ x ∷ [])) ≡ map row (enumerate_from 1 xs)
    ++ row (length xs + 1, x) ∷ []
rows-push row xs x =
    ap (map row) (numbered_push 1 xs x)
    ∙ (map-append row (enumerate_from 1 xs) ((1 + length xs, x) ∷ [])
    ∙ ap (λ k. map row (enumerate_from 1 xs) ++ row (k, x) ∷ []) (omega arith))

pub length-rows : {A B : Type 0} (row : ℕ × A → B) (n : ℕ) (xs : List A)
    → length (map row (enumerate_from n xs)) ≡ length xs
length-rows row n [] = refl
length-rows row n (x ∷ xs) = omega (arith, length-rows row (n + 1) xs)

-- the last of those that pass a test
push_last : {A : Type 0} (x : A) (xs : List A) (b : Bool)
    → last_or None (xs ++ cond b (x ∷ []) [])
    ≡ or_else (if b then Some x else None) (last_or None xs)
push_last x xs true = last_or-push None xs (Some x)
push_last x xs false = last_or-push None xs None

pub last-filter : (test : Command → Bool) (c : Command) (h : List Command)
    → last_or None (filter test (reverse (c ∷ h)))
    ≡ or_else (if test c then Some c else None) (last_or None (filter test (reverse h)))
last-filter test c h =
    ap (λ cs. last_or None (filter test cs)) (reverse-append (c ∷ []) h)
    ∙ (ap (last_or None) (filter-append test (reverse h) (c ∷ []))
    ∙ push_last c (filter test (reverse h)) (test c))

-- the last of a reversed list
pub last-reverse : {A : Type 0} (x : A) (xs : List A) → last_or None (reverse (x ∷ xs)) ≡ Some x
last-reverse x xs = ap (last_or None) (reverse-append (x ∷ []) xs)
    ∙ last_or-push None (reverse xs) (Some x)

cons_reverse : {A : Type 0} (o : Option A) (xs : List A)
    → reverse xs ++ cons_option o [] ≡ reverse (cons_option o xs)
cons_reverse None xs = append-nil (reverse xs)
cons_reverse (Some x) xs = sym (reverse-append (x ∷ []) xs)

pub filter_map-reverse : {A B : Type 0} (f : A → Option B) (xs : List A)
    → filter_map f (reverse xs) ≡ reverse (filter_map f xs)
filter_map-reverse f [] = refl
filter_map-reverse f (x ∷ xs) =
    ap (filter_map f) (reverse-append (x ∷ []) xs)
    ∙ (filter_map-append f (reverse xs) (x ∷ [])
    ∙ (ap (λ ys. ys ++ cons_option (f x) []) (filter_map-reverse f xs)
    ∙ cons_reverse (f x) (filter_map f xs)))
