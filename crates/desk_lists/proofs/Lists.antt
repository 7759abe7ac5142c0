-- A list made from another, one item at a time.
use Rattle.std.proofs.Common.{◌≡◌, ℕ, ◌+◌, ◌<◌, ◌≤◌, Bool, true, false, cond, List, [], ◌∷◌, ◌++◌}
use Rattle.std.proofs.Common.{length, get_or, take, take_all, map, refl, sym, ap, ap₂, subst}
use Rattle.std.proofs.Common.{◌∙◌, append-nil, append_assoc}
use Rattle.std.specs.Prelude.{filter, find, reverse, Option, Some, None}
use Rattle.std.specs.List.{AllZip}
use Rattle.std.proofs.lemmas.List.{map_more, map-append, reverse-append, take_more}
use Rattle.std.proofs.lemmas.List.Elements.{filter_more}
use Rattle.std.proofs.lemmas.List.Folds.{find-append}
use Rattle.std.specs.Option.{option_or}
use Rattle.desk_base.proofs.Lists.{zip_pushed}

-- one more is made
pub made_more : {X Y : Type 0} (f : X → Y) (xs : List X) (i : ℕ) (x : X) (before after : List Y)
    (y : Y) → i < length xs
    → x ≡ get_or xs i x → before ≡ map f (take i xs) → y ≡ f x → after ≡ before ++ y ∷ []
    → after ≡ map f (take (i + 1) xs)
made_more f xs i x before after y inside at so_far made pushed =
    pushed ∙ ap₂ (λ ys z. ys ++ z ∷ []) so_far (made ∙ ap f at) ∙ sym (map_more f xs i x inside)

-- one more is kept, and it shows the next item
pub shown_more : {X Y : Type 0} (shown : Y → X) (xs : List X) (i : ℕ) (x : X)
    (before after : List Y) (y : Y) → i < length xs
    → x ≡ get_or xs i x → map shown before ≡ take i xs → shown y ≡ x → after ≡ before ++ y ∷ []
    → map shown after ≡ take (i + 1) xs
shown_more shown xs i x before after y inside at so_far is pushed =
    ap (map shown) pushed ∙ map-append shown before (y ∷ [])
    ∙ ap₂ (λ zs z. zs ++ z ∷ []) so_far (is ∙ at) ∙ sym (take_more xs i x inside)

-- one more is made, after others
pub added_more : {X Y : Type 0} (f : X → Y) (xs : List X) (i : ℕ) (x : X)
    (start before after : List Y) (y : Y) → i < length xs
    → x ≡ get_or xs i x → before ≡ start ++ map f (take i xs) → y ≡ f x → after ≡ before ++ y ∷ []
    → after ≡ start ++ map f (take (i + 1) xs)
added_more f xs i x start before after y inside at so_far made pushed =
    pushed ∙ ap₂ (λ ys z. ys ++ z ∷ []) so_far (made ∙ ap f at)
    ∙ append_assoc start (map f (take i xs)) (f (get_or xs i x) ∷ [])
    ∙ ap (λ ys. start ++ ys) (sym (map_more f xs i x inside))

-- one more item in each of two lists
pub zipped_more : {X Y : Type 0} (R : X → Y → Type 0) (xs : List X) (i : ℕ) (x : X)
    (before after : List Y) (y : Y) → i < length xs
    → x ≡ get_or xs i x → AllZip R (take i xs) before → R x y → after ≡ before ++ y ∷ []
    → AllZip R (take (i + 1) xs) after
zipped_more {X} {Y} R xs i x before after y inside at zip r pushed =
    let next : take (i + 1) xs ≡ take i xs ++ x ∷ [] = take_more xs i x inside
    ∙ ap (λ (z : X). take i xs ++ z ∷ []) (sym at) in
    subst (λ (l : List X). AllZip R l after) (sym next)
    (subst (λ (l : List Y). AllZip R (take i xs ++ x ∷ []) l) (sym pushed)
    (zip_pushed R (take i xs) before x y zip r))

module _ {X Y : Type 0} (f : X → Y) (p : X → Bool) (xs : List X) (i : ℕ) (x : X)
    (inside : i < length xs) (at : x ≡ get_or xs i x) (before : List Y)
    (so_far : before ≡ map f (filter p (take i xs))) where
  -- what the next item adds to those that pass
  next : (b : Bool) → p x ≡ b → map f (filter p (take (i + 1) xs)) ≡ before
      ++ map f (cond b (x ∷ []) [])
  next b e =
      let here : cond (p (get_or xs i x)) (get_or xs i x ∷ []) [] ≡ cond b (x ∷ []) [] =
      ap (λ z. cond (p z) (z ∷ []) []) (sym at) ∙ ap (λ t. cond t (x ∷ []) []) e in
      ap (map f) (filter_more p xs i x inside) ∙ ap (λ ys. map f (filter p (take i xs) ++ ys)) here
      ∙ map-append f (filter p (take i xs)) (cond b (x ∷ []) [])
      ∙ ap (λ ys. ys ++ map f (cond b (x ∷ []) [])) (sym so_far)

  -- the next one passes, and one more is made
  pub passing_more : (after : List Y) (y : Y) → p x ≡ true → y ≡ f x → after ≡ before ++ y ∷ []
      → after ≡ map f (filter p (take (i + 1) xs))
  passing_more after y passes made pushed = pushed ∙ ap (λ z. before ++ z ∷ []) made
      ∙ sym (next true passes)

  -- the next one doesn't pass
  pub failing_more : p x ≡ false → before ≡ map f (filter p (take (i + 1) xs))
  failing_more fails = sym (append-nil before) ∙ sym (next false fails)

-- the last of some
abbrev last_of : {A : Type 0} → List A → Option A
last_of [] = None
last_of (x ∷ xs) = option_or (last_of xs) (Some x)

module _ {A : Type 0} (p : A → Bool) where
  none_or : (o : Option A) → option_or o None ≡ o
  none_or None = refl
  none_or (Some x) = refl

  one_more : (x : A) (ys : List A) (b : Bool)
      → option_or (last_of ys) (cond b (Some x) None) ≡ last_of (cond b (x ∷ ys) ys)
  one_more x ys true = refl
  one_more x ys false = none_or (last_of ys)

  find-reverse : (xs : List A) → find p (reverse xs) ≡ last_of (filter p xs)
  find-reverse [] = refl
  find-reverse (x ∷ xs) =
      ap (find p) (reverse-append (x ∷ []) xs) ∙ find-append p (reverse xs) (x ∷ [])
      ∙ ap (λ o. option_or o (cond (p x) (Some x) None)) (find-reverse xs)
      ∙ one_more x (filter p xs) (p x)

  -- if a test keeps the same rows of two lists, the last one is the same
  pub find-reverse_among : (rows all : List A) → filter p rows ≡ filter p all
      → find p (reverse rows) ≡ find p (reverse all)
  find-reverse_among rows all e = find-reverse rows ∙ ap last_of e ∙ sym (find-reverse all)

-- one more is made, from a copied item
pub made_at : {X Y : Type 0} (f : X → Y) (xs : List X) (i : ℕ) (d : X) (before after : List Y)
    (y : Y) → i < length xs → before ≡ map f (take i xs)
    → y ≡ f (get_or xs i d) → after ≡ before ++ y ∷ [] → after ≡ map f (take (i + 1) xs)
made_at f xs i d before after y inside so_far made pushed =
    pushed ∙ ap₂ (λ ys z. ys ++ z ∷ []) so_far made ∙ sym (map_more f xs i d inside)

-- once no item is left, all are made
pub whole : {X B : Type 0} (f : List X → B) (xs : List X) (i : ℕ) (made : B) → length xs ≤ i
    → made ≡ f (take i xs) → made ≡ f xs
whole f xs i made out so_far = so_far ∙ ap f (take_all i xs out)
