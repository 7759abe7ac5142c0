-- One more item of a loop.
use Rattle.std.proofs.Common.{◌≡◌, ℕ, Bool, true, false, ◌+◌, ◌<◌, ◌≤◌, List, [], ◌∷◌, ◌++◌, length}
use Rattle.std.proofs.Common.{map, filter, drop, get_or, take, Option, Some, None, sym, refl, ap}
use Rattle.std.proofs.Common.{ap₂, ◌∙◌, append_assoc, suc, arith}
use Rattle.std.specs.Prelude.{◌==◌, not, if◌then◌else◌}
use Rattle.std.specs.List.{cons_option, filter_map, flat_map, list_any}
use Rattle.std.proofs.lemmas.Bool.Decides.{nat_tests}
use Rattle.std.proofs.lemmas.List.{append-nil, at_drop_all, map-append, map_more}
use Rattle.desk_base.proofs.Lists.{drop_item}
use Rattle.desk_model.specs.Obstacles.{is_told, told_once}
use Rattle.desk_model.specs.declared.refusal.Refusal.{Refusal}

option_step : {B : Type 0} (old : List B) (o : Option B) (rest : List B)
    → (old ++ cons_option o []) ++ rest ≡ old ++ cons_option o rest
option_step old None rest = ap (λ ys. ys ++ rest) (append-nil old)
option_step old (Some y) rest = append_assoc old (y ∷ []) rest

-- a `filter_map` so far, with one more item
pub filter_map_step : {A B : Type 0} (f : A → Option B) (xs : List A) (i : ℕ) (x : A)
    (old new all : List B) (o : Option B) → i < length xs → x ≡ get_or xs i x
    → o ≡ f x → new ≡ old ++ cons_option o [] → old ++ filter_map f (drop i xs) ≡ all
    → new ++ filter_map f (drop (i + 1) xs) ≡ all
filter_map_step f xs i x old new all o lt is e grown sofar =
    let rest = filter_map f (drop (i + 1) xs) in
    ap (λ ys. ys ++ rest) grown
    ∙ (option_step old o rest
    ∙ (ap (λ o. old ++ cons_option o rest) e
    ∙ (ap (λ ys. old ++ filter_map f ys) (sym (drop_item xs i x lt is)) ∙ sofar)))

-- a `flat_map` so far, with one more item
pub flat_map_step : {A B : Type 0} (f : A → List B) (xs : List A) (i : ℕ) (x : A)
    (old new here all : List B) → i < length xs → x ≡ get_or xs i x
    → here ≡ f x → new ≡ old ++ here → old ++ flat_map f (drop i xs) ≡ all
    → new ++ flat_map f (drop (i + 1) xs) ≡ all
flat_map_step f xs i x old new here all lt is e grown sofar =
    let rest = flat_map f (drop (i + 1) xs) in
    ap (λ ys. ys ++ rest) grown
    ∙ (append_assoc old here rest
    ∙ (ap (λ ys. old ++ (ys ++ rest)) e
    ∙ (ap (λ ys. old ++ flat_map f ys) (sym (drop_item xs i x lt is)) ∙ sofar)))

-- a `filter` so far, with one more item
chosen_step : {A : Type 0} (old : List A) (b : Bool) (x : A) (f : A → Bool) (xs : List A) → b ≡ f x
    → (old ++ (if b then x ∷ [] else [])) ++ filter f xs ≡ old ++ filter f (x ∷ xs)
chosen_step old true x f xs e = rw (← e) (append_assoc old (x ∷ []) (filter f xs))
chosen_step old false x f xs e = rw (← e) (ap (λ ys. ys ++ filter f xs) (append-nil old))

pub filter_step : {A B : Type 0} (f : B → Bool) (g : A → B) (xs : List A) (i : ℕ) (x : A)
    (old new all : List B) (b : Bool) → i < length xs → x ≡ get_or xs i x
    → b ≡ f (g x) → new ≡ old ++ (if b then g x ∷ [] else [])
    → old ++ filter f (map g (drop i xs)) ≡ all → new ++ filter f (map g (drop (i + 1) xs)) ≡ all
filter_step f g xs i x old new all b lt is e grown sofar =
    ap (λ ys. ys ++ filter f (map g (drop (i + 1) xs))) grown
    ∙ (chosen_step old b (g x) f (map g (drop (i + 1) xs)) e
    ∙ (ap (λ ys. old ++ filter f (map g ys)) (sym (drop_item xs i x lt is)) ∙ sofar))

-- nothing passes a test if no item does
nothing_more : {A : Type 0} (f : A → Bool) (x : A) (xs : List A) (b : Bool) → f x ≡ b
    → (length (filter f xs) == 0) ≡ not (list_any f xs)
    → (length (filter f (x ∷ xs)) == 0) ≡ not (list_any f (x ∷ xs))
nothing_more f x xs true e h = let some : (suc (length (filter f xs)) == 0) ≡ false =
    grind (arith, nat_tests) in rw e some
nothing_more f x xs false e h = rw e h

pub nothing_passes : {A : Type 0} (f : A → Bool) (xs : List A)
    → (length (filter f xs) == 0) ≡ not (list_any f xs)
nothing_passes f [] = refl
nothing_passes f (x ∷ xs) = nothing_more f x xs (f x) refl (nothing_passes f xs)

-- one more refusal
abbrev news : List Refusal → Refusal → List Refusal
news told x = if is_told told x then [] else x ∷ []

once_more : (told : List Refusal) (y : Refusal) (ys : List Refusal) (x : Refusal) (b : Bool)
    → is_told told y ≡ b
    → ((told : List Refusal) → told_once told (ys ++ x ∷ []) ≡ told_once told ys
    ++ news (told ++ told_once told ys) x)
    → told_once told (y ∷ (ys ++ x ∷ [])) ≡ told_once told (y ∷ ys)
    ++ news (told ++ told_once told (y ∷ ys)) x
once_more told y ys x true e h = rw e (h told)
once_more told y ys x false e h =
    rw e (ap (λ zs. y ∷ zs) (h (told ++ y ∷ [])
    ∙ ap (λ zs. told_once (told ++ y ∷ []) ys ++ news zs x)
    (append_assoc told (y ∷ []) (told_once (told ++ y ∷ []) ys))))

told_once_push : (told xs : List Refusal) (x : Refusal)
    → told_once told (xs ++ x ∷ []) ≡ told_once told xs ++ news (told ++ told_once told xs) x
told_once_push told [] x = ap (λ zs. news zs x) (sym (append-nil told))
told_once_push told (y ∷ ys) x = once_more told y ys x (is_told told y) refl
    (λ told. told_once_push told ys x)

-- so far, with one more refusal
pub told_once_step : (yielded told new : List Refusal) (x : Refusal) → told ≡ told_once [] yielded
    → new ≡ told ++ news told x → new ≡ told_once [] (yielded ++ x ∷ [])
told_once_step yielded told new x sofar grown = grown
    ∙ sym (told_once_push [] yielded x ∙ ap (λ zs. zs ++ news zs x) (sym sofar))

-- what was found is all, once no item is left
pub ended : {A B : Type 0} (g : List A → List B) (xs : List A) (i : ℕ) (found all : List B)
    → length xs ≤ i → g [] ≡ [] → found ++ g (drop i xs) ≡ all
    → found ≡ all
ended g xs i found all out none so_far = sym (append-nil found)
    ∙ (ap (λ ys. found ++ ys) (sym (at_drop_all g xs i out ∙ none)) ∙ so_far)

-- one more item is made, as it is seen
pub seen_more : {A B C : Type 0} (seen : B → C) (f : A → C) (xs : List A) (i : ℕ) (x : A)
    (old new : List B) (y : B) → i < length xs → x ≡ get_or xs i x
    → map seen old ≡ map f (take i xs) → seen y ≡ f x → new ≡ old ++ y ∷ []
    → map seen new ≡ map f (take (i + 1) xs)
seen_more seen f xs i x old new y lt is sofar made grown =
    ap (map seen) grown ∙ map-append seen old (y ∷ [])
    ∙ ap₂ (λ zs z. zs ++ z ∷ []) sofar (made ∙ ap f is) ∙ sym (map_more f xs i x lt)
