-- The front of a list grows by one, and so the rest shrinks.
use Rattle.std.specs.List.{join_with_byte}
use Rattle.std.specs.Prelude.{Some, None, find, not}
use Rattle.std.proofs.lemmas.Grind.{flat_map-append}
use Rattle.std.proofs.lemmas.List.{append_assoc, map-append, take-append-drop, take_more}
use Rattle.std.proofs.lemmas.List.Elements.{filter-append}
use Rattle.std.proofs.Common.{◌≡◌, Bool, true, false, cond, drop, filter, flat_map, map, ℕ}
use Rattle.std.proofs.Common.{◌<◌, List, [], ◌∷◌, ◌++◌, take, length, get_or, refl, sym}
use Rattle.desk_model.specs.declared.row.ChangeRow.{ChangeRow}
use Rattle.desk_model.specs.Moves.{is_waiver}
use Rattle.std.proofs.Common.{ap, arith, add-one, length-append, ◌∙◌, ◌+◌}

-- after others, the front and the next item are the longer front
pub front_more : {X : Type 0} (xs rows : List X) (i : ℕ) (d x : X) → x ≡ get_or rows i d
    → i < length rows → (xs ++ take i rows) ++ x ∷ [] ≡ xs ++ take (i + 1) rows
front_more xs rows i d x is low = append_assoc xs (take i rows) (x ∷ [])
    ∙ ap (λ y. xs ++ (take i rows ++ y ∷ [])) is
    ∙ ap (λ l. xs ++ l) (sym (take_more rows i d low))

-- how many items of two lists pass a test
pub count_both : {X : Type 0} (p : X → Bool) (xs ys : List X)
    → length (filter p (xs ++ ys)) ≡ length (filter p xs) + length (filter p ys)
count_both p xs ys = ap length (filter-append p xs ys) ∙ length-append (filter p xs) (filter p ys)

-- one more text after others that are joined
pub join_more : (x : List ℕ) (xs : List (List ℕ)) (y : List ℕ)
    → join_with_byte 32 (x ∷ (xs ++ y ∷ [])) ≡ join_with_byte 32 (x ∷ xs) ++ (32 ∷ y)
join_more x [] y = refl
join_more x (z ∷ zs) y = ap (λ l. x ++ 32 ∷ l) (join_more z zs y)
    ∙ sym (append_assoc x (32 ∷ join_with_byte 32 (z ∷ zs)) (32 ∷ y))

-- after others, those of the front that pass, and the next one if it does
pub filter_more : {X : Type 0} (p : X → Bool) (xs rows : List X) (i : ℕ) (d x : X)
    → x ≡ get_or rows i d → i < length rows
    → (xs ++ filter p (take i rows)) ++ filter p (x ∷ []) ≡ xs ++ filter p (take (i + 1) rows)
filter_more p xs rows i d x is low =
    append_assoc xs (filter p (take i rows)) (filter p (x ∷ []))
    ∙ ap (λ l. xs ++ l) (sym (filter-append p (take i rows) (x ∷ []))
    ∙ ap (filter p) (front_more [] rows i d x is low))

pub joined_on : (codes rest : List (List ℕ)) (first code : List ℕ) (i : ℕ) (old blank new : List ℕ)
    → codes ≡ first ∷ rest → i < length rest → code ≡ get_or rest i code
    → old ≡ join_with_byte 32 (take (i + 1) codes) → blank ≡ old ++ 32 ∷ [] → new ≡ blank ++ code
    → new ≡ join_with_byte 32 (take (i + 1 + 1) codes)
joined_on codes rest first code i old blank new whole low is so then last =
    last ∙ ap (λ l. l ++ code) (then
    ∙ ap (λ l. l ++ 32 ∷ []) (so ∙ ap (join_with_byte 32) (front i)))
    ∙ append_assoc (join_with_byte 32 (first ∷ take i rest)) (32 ∷ []) code
    ∙ sym (join_more first (take i rest) code)
    ∙ ap (λ l. join_with_byte 32 (first ∷ l)) (front_more [] rest i code code is low)
    ∙ ap (join_with_byte 32) (sym (front (i + 1)))
  where
    front : (n : ℕ) → take (n + 1) codes ≡ first ∷ take n rest
    front n = ap (take (n + 1)) whole ∙ ap (λ m. take m (first ∷ rest)) (add-one n)

pub waiver_kept : (row : ChangeRow) (day : List ℕ) → row.last_day ≡ Some day
    → filter is_waiver (row ∷ []) ≡ row ∷ []
waiver_kept row day is = rw is refl

-- the rows are those that were added and those that are left, of which more were added
pub more_added : {X : Type 0} (rows added left more rest : List X) → rows ≡ added ++ left
    → left ≡ more ++ rest → rows ≡ (added ++ more) ++ rest
more_added rows added left more rest was is = was ∙ ap (λ l. added ++ l) is
    ∙ sym (append_assoc added more rest)

-- what is true of any eight items is true of a list of eight
pub eight : {X : Type 0} (P : List X → Type 0)
    → ((a b c d e f g h : X) → P (a ∷ b ∷ c ∷ d ∷ e ∷ f ∷ g ∷ h ∷ [])) → (rows : List X)
    → length rows ≡ 8 → P rows
eight P holds (a ∷ b ∷ c ∷ d ∷ e ∷ f ∷ g ∷ h ∷ []) is = holds a b c d e f g h
eight P holds (a ∷ b ∷ c ∷ d ∷ e ∷ f ∷ g ∷ h ∷ i ∷ rows) is = absurd (omega arith)
eight P holds (a ∷ b ∷ c ∷ d ∷ e ∷ f ∷ g ∷ []) is = absurd (omega arith)
eight P holds (a ∷ b ∷ c ∷ d ∷ e ∷ f ∷ []) is = absurd (omega arith)
eight P holds (a ∷ b ∷ c ∷ d ∷ e ∷ []) is = absurd (omega arith)
eight P holds (a ∷ b ∷ c ∷ d ∷ []) is = absurd (omega arith)
eight P holds (a ∷ b ∷ c ∷ []) is = absurd (omega arith)
eight P holds (a ∷ b ∷ []) is = absurd (omega arith)
eight P holds (a ∷ []) is = absurd (omega arith)
eight P holds [] is = absurd (omega arith)

-- what is made of the front of a list and of the next item
flat_more : {X V : Type 0} (f : X → List V) (rows : List X) (i : ℕ) (d x : X)
    → x ≡ get_or rows i d → i < length rows
    → flat_map f (take i rows) ++ flat_map f (x ∷ []) ≡ flat_map f (take (i + 1) rows)
flat_more f rows i d x is low = sym (flat_map-append f (take i rows) (x ∷ []))
    ∙ ap (flat_map f) (front_more [] rows i d x is low)

-- the same for what another list is made of, and then more of it
pub values_more : {X V W : Type 0} (f : X → List W) (g : V → W) (rows : List X) (i : ℕ) (x : X)
    (old new all : List V) → all ≡ old ++ new → map g old ≡ flat_map f (take i rows)
    → map g new ≡ flat_map f (x ∷ []) → x ≡ get_or rows i x → i < length rows
    → map g all ≡ flat_map f (take (i + 1) rows)
values_more f g rows i x old new all said had more is low =
    ap (map g) said ∙ map-append g old new ∙ ap (λ l. l ++ map g new) had
    ∙ ap (λ l. flat_map f (take i rows) ++ l) more ∙ flat_more f rows i x x is low

pub cut_in_two : {X : Type 0} (n : ℕ) (all front back : List X) → front ≡ take n all
    → back ≡ drop n all → all ≡ front ++ back
cut_in_two n all front back is rest = sym (take-append-drop n all)
    ∙ (λ i. sym is i ++ sym rest i)

-- nothing is left out if nothing is found
pub none_out : {A : Type 0} (at : A → Bool) (xs : List A) → find at xs ≡ None
    → filter (λ y. not (at y)) xs ≡ xs
none_out at [] none = refl
none_out {A} at (x ∷ xs) none = go (none_out at xs) (at x) none
  where
    go : (find at xs ≡ None → filter (λ y. not (at y)) xs ≡ xs) → (b : Bool)
        → cond b (Some x) (find at xs) ≡ None
        → cond (not b) (x ∷ filter (λ y. not (at y)) xs) (filter (λ y. not (at y)) xs) ≡ x ∷ xs
    go more true is = absurd (cc)
    go more false is = ap (λ l. x ∷ l) (more is)
