-- Blocks that change.
use Rattle.std.proofs.Common.{◌≡◌, ℕ, zero, suc, ◌+◌, ◌-◌, ◌<◌, ◌≤◌, Bool, true, false, cond, List}
use Rattle.std.proofs.Common.{[], ◌∷◌, ◌++◌, length, map, take, drop, get_or, set, sym, refl, ap}
use Rattle.std.proofs.Common.{◌∙◌, arith}
use Rattle.std.specs.Prelude.{filter, flat_map, insert, ◌&&◌, ◌==◌, not, Vec, vec_len}
use Rattle.std.specs.List.{list_all, list_any}
use Rattle.std.specs.Vec.{with_items}
use Rattle.std.specs.declared.alloc.Global.{Global}
use Rattle.std.proofs.lemmas.List.{append-nil, append_assoc, take-map, drop-map, map-append, with_items_is}
use Rattle.std.proofs.lemmas.List.Folds.{flat_map-map, list_all-append}
use Rattle.std.proofs.lemmas.Bool.{and_from, not-true}
use Rattle.desk_model.specs.Lists.{put, put_all}
use Rattle.desk_model.proofs.Lists.{put-past}
use Rattle.desk_sorted.specs.Blocks.{are_all_filled, are_filled, has_rows, is_between, rows_in}
use Rattle.desk_sorted.proofs.Halving.{put_first, some_left}
use Rattle.desk_sorted.proofs.Blocking.{all_drop, all_take}
use Rattle.desk_base.proofs.Bools.{and_left, and_right, or_left, or_right}

-- blocks without rows are dropped

rows_of_kept : {R : Type 0} (b : Vec R Global) (bs : List (Vec R Global)) (xs : List R)
    → b.items ≡ xs → rows_in (cond (not (length xs == 0)) (b ∷ bs) bs) ≡ xs ++ rows_in bs
rows_of_kept b bs [] e = refl
rows_of_kept b bs (x ∷ xs) e = rw (some_left (length xs)) (ap (λ l. l ++ rows_in bs) e)

pub rows_kept : {R : Type 0} (bs : List (Vec R Global))
    → rows_in (filter (λ b. not (length b.items == 0)) bs) ≡ rows_in bs
rows_kept [] = refl
rows_kept {R = R} (b ∷ bs) =
    rows_of_kept b (filter (λ (d : Vec R Global). not (length d.items == 0)) bs) b.items refl
    ∙ ap (λ l. b.items ++ l) (rows_kept bs)

has_some : {A : Type 0} (xs : List A) → not (length xs == 0) ≡ true → has_rows xs ≡ true
has_some [] e = e
has_some (x ∷ xs) e = refl

all_filled : {R : Type 0} (bs : List (Vec R Global))
    → list_all (λ b. has_rows b.items) (filter (λ b. not (length b.items == 0)) bs) ≡ true
all_filled [] = refl
all_filled {R = R} (b ∷ bs) = either (not (length b.items == 0)) refl (all_filled bs)
  where
    either : (v : Bool) → not (length b.items == 0) ≡ v
        → list_all (λ (d : Vec R Global). has_rows d.items)
        (filter (λ (d : Vec R Global). not (length d.items == 0)) bs) ≡ true
        → list_all (λ (d : Vec R Global). has_rows d.items)
        (cond v (b ∷ filter (λ (d : Vec R Global). not (length d.items == 0)) bs)
        (filter (λ (d : Vec R Global). not (length d.items == 0)) bs)) ≡ true
    either true e rest = and_from (has_rows b.items)
        (list_all (λ (d : Vec R Global). has_rows d.items)
        (filter (λ (d : Vec R Global). not (length d.items == 0)) bs)) (has_some b.items e) rest
    either false e rest = rest

pub filled_kept : {R : Type 0} (bs : List (Vec R Global))
    → are_filled (filter (λ b. not (length b.items == 0)) bs) ≡ true
filled_kept {R = R} bs = all_drop (λ (b : Vec R Global). has_rows b.items) 1
    (filter (λ (b : Vec R Global). not (length b.items == 0)) bs) (all_filled bs)

-- a block that is cut in two

pub has_taken : {A : Type 0} (n : ℕ) (xs : List A) → 0 < n → 0 < length xs
    → has_rows (take n xs) ≡ true
has_taken zero xs some e = absurd (omega (arith, some))
has_taken (suc n) [] some e = absurd (omega (arith, e))
has_taken (suc n) (x ∷ xs) some e = refl

pub has_left : {A : Type 0} (n : ℕ) (xs : List A) → n < length xs → has_rows (drop n xs) ≡ true
has_left zero [] lt = absurd (omega (arith, lt))
has_left zero (x ∷ xs) lt = refl
has_left (suc n) [] lt = absurd (omega (arith, lt))
has_left (suc n) (x ∷ xs) lt = has_left n xs (omega (arith, lt))

abbrev halved : {R : Type 0} → List (Vec R Global) → ℕ → Vec R Global → Vec R Global
    → List (Vec R Global)
halved bs at lower upper = insert (set bs at lower) (suc at) upper

pub rows_halved : {R : Type 0} (bs : List (Vec R Global)) (at : ℕ) (lower upper d : Vec R Global)
    → at < length bs → lower.items ++ upper.items ≡ (get_or bs at d).items
    → rows_in (halved bs at lower upper) ≡ rows_in bs
rows_halved [] at lower upper d lt e = absurd (omega (arith, lt))
rows_halved (b ∷ bs) zero lower upper d lt e = sym (append_assoc lower.items upper.items
    (rows_in bs)) ∙ ap (λ l. l ++ rows_in bs) e
rows_halved (b ∷ bs) (suc at) lower upper d lt e = ap (λ l. b.items ++ l)
    (rows_halved bs at lower upper d (omega (arith, lt)) e)

all_halved : {R : Type 0} (bs : List (Vec R Global)) (at : ℕ) (lower upper : Vec R Global)
    → at < length bs → has_rows lower.items ≡ true → has_rows upper.items ≡ true
    → list_all (λ b. has_rows b.items) bs ≡ true
    → list_all (λ b. has_rows b.items) (halved bs at lower upper) ≡ true
all_halved [] at lower upper lt e f some = absurd (omega (arith, lt))
all_halved {R = R} (b ∷ bs) zero lower upper lt e f some =
    let rest : list_all (λ (d : Vec R Global). has_rows d.items) bs ≡ true =
    and_right (has_rows b.items) (list_all (λ (d : Vec R Global). has_rows d.items) bs) some in
    rw (e, f) rest
all_halved {R = R} (b ∷ bs) (suc at) lower upper lt e f some =
    and_from (has_rows b.items) (list_all (λ (d : Vec R Global). has_rows d.items)
    (halved bs at lower upper)) (and_left (has_rows b.items)
    (list_all (λ (d : Vec R Global). has_rows d.items) bs) some)
    (all_halved bs at lower upper (omega (arith, lt)) e f
    (and_right (has_rows b.items) (list_all (λ (d : Vec R Global). has_rows d.items) bs) some))

pub filled_halved : {R : Type 0} (bs : List (Vec R Global)) (at : ℕ) (lower upper : Vec R Global)
    → at < length bs → has_rows lower.items ≡ true → has_rows upper.items ≡ true
    → are_filled bs ≡ true → are_filled (halved bs at lower upper) ≡ true
filled_halved [] at lower upper lt e f some = absurd (omega (arith, lt))
filled_halved (b ∷ bs) zero lower upper lt e f some = rw f some
filled_halved (b ∷ bs) (suc at) lower upper lt e f some = all_halved bs at lower upper
    (omega (arith, lt)) e f some

-- blocks with the same rows, one by one

abbrev pub parts : {R : Type 0} → List (Vec R Global) → List (List R)
parts bs = map (λ b. b.items) bs

pub set_alike : {R : Type 0} (bs : List (Vec R Global)) (at : ℕ) (b d : Vec R Global)
    → at < length bs → b.items ≡ (get_or bs at d).items → parts (set bs at b) ≡ parts bs
set_alike [] at b d lt e = absurd (omega (arith, lt))
set_alike (x ∷ xs) zero b d lt e = ap (λ l. l ∷ parts xs) e
set_alike (x ∷ xs) (suc at) b d lt e = ap (λ l. x.items ∷ l)
    (set_alike xs at b d (omega (arith, lt)) e)

pub pushed_alike : {R : Type 0} (bs cs : List (Vec R Global)) (b c : Vec R Global)
    → parts bs ≡ parts cs → b.items ≡ c.items → parts (bs ++ b ∷ []) ≡ parts (cs ++ c ∷ [])
pushed_alike {R = R} bs cs b c e f =
    map-append (λ (x : Vec R Global). x.items) bs (b ∷ [])
    ∙ (ap (λ l. l ++ b.items ∷ []) e
    ∙ (ap (λ x. parts cs ++ x ∷ []) f
    ∙ sym (map-append (λ (x : Vec R Global). x.items) cs (c ∷ []))))

pub alike_rows : {R : Type 0} (bs cs : List (Vec R Global)) → parts bs ≡ parts cs
    → rows_in bs ≡ rows_in cs
alike_rows {R = R} bs cs e =
    sym (flat_map-map (λ (l : List R). l) (λ (b : Vec R Global). b.items) bs)
    ∙ (ap (flat_map (λ (l : List R). l)) e
    ∙ flat_map-map (λ (l : List R). l) (λ (b : Vec R Global). b.items) cs)

pub alike_take : {R : Type 0} (n : ℕ) (bs cs : List (Vec R Global)) → parts bs ≡ parts cs
    → rows_in (take n bs) ≡ rows_in (take n cs)
alike_take {R = R} n bs cs e =
    alike_rows (take n bs) (take n cs)
    (sym (take-map (λ (b : Vec R Global). b.items) n bs)
    ∙ (ap (take n) e ∙ take-map (λ (b : Vec R Global). b.items) n cs))

pub alike_drop : {R : Type 0} (n : ℕ) (bs cs : List (Vec R Global)) → parts bs ≡ parts cs
    → rows_in (drop n bs) ≡ rows_in (drop n cs)
alike_drop {R = R} n bs cs e =
    alike_rows (drop n bs) (drop n cs)
    (sym (drop-map (λ (b : Vec R Global). b.items) n bs)
    ∙ (ap (drop n) e ∙ drop-map (λ (b : Vec R Global). b.items) n cs))

has_parts : {R : Type 0} (bs : List (Vec R Global))
    → list_all (λ b. has_rows b.items) bs ≡ list_all has_rows (parts bs)
has_parts [] = refl
has_parts (b ∷ bs) = ap (λ v. has_rows b.items && v) (has_parts bs)

filled_parts : {R : Type 0} (bs : List (Vec R Global))
    → are_filled bs ≡ list_all has_rows (drop 1 (parts bs))
filled_parts [] = refl
filled_parts (b ∷ bs) = has_parts bs

pub alike_filled : {R : Type 0} (bs cs : List (Vec R Global)) → parts bs ≡ parts cs
    → are_filled bs ≡ are_filled cs
alike_filled bs cs e = filled_parts bs
    ∙ (ap (λ l. list_all has_rows (drop 1 l)) e ∙ sym (filled_parts cs))

-- a block that changes only its memory
pub record Alike {R : Type 0} (bs cs : List (Vec R Global)) : Type 0 where
  pub items : parts bs ≡ parts cs
  pub rows : rows_in bs ≡ rows_in cs
  pub filled : are_filled bs ≡ are_filled cs

pub kept_at : {R : Type 0} (blocks : Vec (Vec R Global) Global) (at : ℕ) (kept was : Vec R Global)
    → at < vec_len blocks → kept.items ≡ was.items → was ≡ get_or blocks.items at was
    → Alike (set blocks.items at kept) blocks.items
kept_at blocks at kept was within same is =
    let items = set_alike blocks.items at kept was (omega (arith, blocks.ok.0, within))
    (same ∙ ap (λ b. b.items) is) in
    record {
      items = items;
      rows = alike_rows (set blocks.items at kept) blocks.items items;
      filled = alike_filled (set blocks.items at kept) blocks.items items;
    }

-- a block that changes

pub rows_set : {R : Type 0} (bs : List (Vec R Global)) (at : ℕ) (b : Vec R Global) → at < length bs
    → rows_in (set bs at b) ≡ rows_in (take at bs) ++ (b.items ++ rows_in (drop (suc at) bs))
rows_set [] at b lt = absurd (omega (arith, lt))
rows_set (x ∷ xs) zero b lt = refl
rows_set (x ∷ xs) (suc at) b lt =
    ap (λ l. x.items ++ l) (rows_set xs at b (omega (arith, lt)))
    ∙ sym (append_assoc x.items (rows_in (take at xs)) (b.items ++ rows_in (drop (suc at) xs)))

pub rows_at : {R : Type 0} (bs : List (Vec R Global)) (at : ℕ) (d : Vec R Global) → at < length bs
    → rows_in bs ≡ rows_in (take at bs) ++ ((get_or bs at d).items ++ rows_in (drop (suc at) bs))
rows_at [] at d lt = absurd (omega (arith, lt))
rows_at (x ∷ xs) zero d lt = refl
rows_at (x ∷ xs) (suc at) d lt =
    ap (λ l. x.items ++ l) (rows_at xs at d (omega (arith, lt)))
    ∙ sym (append_assoc x.items (rows_in (take at xs))
    ((get_or xs at d).items ++ rows_in (drop (suc at) xs)))

all_set : {R : Type 0} (bs : List (Vec R Global)) (at : ℕ) (b : Vec R Global)
    → has_rows b.items ≡ true → list_all (λ d. has_rows d.items) bs ≡ true
    → list_all (λ d. has_rows d.items) (set bs at b) ≡ true
all_set [] at b e some = refl
all_set {R = R} (x ∷ xs) zero b e some = and_from (has_rows b.items)
    (list_all (λ (d : Vec R Global). has_rows d.items) xs) e
    (and_right (has_rows x.items) (list_all (λ (d : Vec R Global). has_rows d.items) xs) some)
all_set {R = R} (x ∷ xs) (suc at) b e some =
    and_from (has_rows x.items) (list_all (λ (d : Vec R Global). has_rows d.items) (set xs at b))
    (and_left (has_rows x.items) (list_all (λ (d : Vec R Global). has_rows d.items) xs) some)
    (all_set xs at b e (and_right (has_rows x.items)
    (list_all (λ (d : Vec R Global). has_rows d.items) xs) some))

pub filled_set : {R : Type 0} (bs : List (Vec R Global)) (at : ℕ) (b : Vec R Global)
    → has_rows b.items ≡ true → are_filled bs ≡ true → are_filled (set bs at b) ≡ true
filled_set [] at b e some = refl
filled_set (x ∷ xs) zero b e some = some
filled_set (x ∷ xs) (suc at) b e some = all_set xs at b e some

-- the rows of the blocks from one on

pub drop_at : {R : Type 0} (bs : List (Vec R Global)) (at : ℕ) (d : Vec R Global) → at < length bs
    → drop at bs ≡ get_or bs at d ∷ drop (suc at) bs
drop_at [] at d lt = absurd (omega (arith, lt))
drop_at (x ∷ xs) zero d lt = refl
drop_at (x ∷ xs) (suc at) d lt = drop_at xs at d (omega (arith, lt))

-- rows that go in between others

put_before : {A : Type 0} (below : A → A → Bool) (x : A) (middle back : List A)
    → list_all (below x) back ≡ true → put below x (middle ++ back) ≡ put below x middle ++ back
put_before below x [] back e = put_first below x back e
put_before below x (m ∷ ms) back e =
    elim (below x m) as (λ b. cond b (x ∷ m ∷ (ms ++ back)) (m ∷ put below x (ms ++ back))
    ≡ cond b (x ∷ m ∷ ms) (m ∷ put below x ms) ++ back) [
      | true ↦ refl
      | false ↦ ap (λ l. m ∷ l) (put_before below x ms back e)
    ]

pub put_between : {A : Type 0} (below : A → A → Bool) (x : A) (front middle back : List A)
    → is_between below front back x ≡ true
    → put below x (front ++ (middle ++ back)) ≡ front ++ (put below x middle ++ back)
put_between below x front middle back e =
    put-past below x front (middle ++ back)
    (not-true (list_any (below x) front)
    (and_left (not (list_any (below x) front)) (list_all (below x) back) e))
    ∙ ap (λ l. front ++ l) (put_before below x middle back
    (and_right (not (list_any (below x) front)) (list_all (below x) back) e))

pub put_all_between : {A : Type 0} (below : A → A → Bool) (xs front middle back : List A)
    → list_all (is_between below front back) xs ≡ true
    → put_all below xs (front ++ (middle ++ back)) ≡ front ++ (put_all below xs middle ++ back)
put_all_between below [] front middle back e = refl
put_all_between below (x ∷ xs) front middle back e =
    ap (put below x) (put_all_between below xs front middle back
    (and_right (is_between below front back x) (list_all (is_between below front back) xs) e))
    ∙ put_between below x front (put_all below xs middle) back
    (and_left (is_between below front back x) (list_all (is_between below front back) xs) e)

pub has_put : {A : Type 0} (below : A → A → Bool) (x : A) (xs : List A)
    → has_rows (put below x xs) ≡ true
has_put below x [] = refl
has_put below x (y ∷ ys) = elim (below x y) as
    (λ b. has_rows (cond b (x ∷ y ∷ ys) (y ∷ put below x ys)) ≡ true) [ true ↦ refl | false ↦ refl ]

-- the last block joined to the one before it

has_more : {A : Type 0} (xs ys : List A) → has_rows xs ≡ true → has_rows (xs ++ ys) ≡ true
has_more [] ys e = cc
has_more (x ∷ xs) ys e = refl

pub rows_joined : {R : Type 0} (bs : List (Vec R Global)) (last b d : Vec R Global) (at : ℕ)
    → at + 1 ≡ length bs → b.items ≡ (get_or bs at d).items ++ last.items
    → rows_in (set bs at b) ≡ rows_in (bs ++ last ∷ [])
rows_joined [] last b d at e f = absurd (omega (arith, e))
rows_joined (x ∷ []) last b d zero e f = append-nil b.items
    ∙ (f ∙ ap (λ l. x.items ++ l) (sym (append-nil last.items)))
rows_joined (x ∷ []) last b d (suc at) e f = absurd (omega (arith, e))
rows_joined (x ∷ y ∷ ys) last b d zero e f = absurd (omega (arith, e))
rows_joined (x ∷ y ∷ ys) last b d (suc at) e f = ap (λ l. x.items ++ l)
    (rows_joined (y ∷ ys) last b d at (omega (arith, e)) f)

all_joined : {R : Type 0} (bs : List (Vec R Global)) (last b d : Vec R Global) (at : ℕ)
    → at + 1 ≡ length bs → b.items ≡ (get_or bs at d).items ++ last.items
    → list_all (λ x. has_rows x.items) (bs ++ last ∷ []) ≡ true
    → list_all (λ x. has_rows x.items) (set bs at b) ≡ true
all_joined [] last b d at e f some = absurd (omega (arith, e))
all_joined {R = R} (x ∷ xs) last b d zero e f some =
    let here = ap has_rows f ∙ has_more x.items last.items
    (and_left (has_rows x.items) (list_all (λ (y : Vec R Global). has_rows y.items)
    (xs ++ last ∷ [])) some) in
    let rest = and_right (has_rows x.items)
    (list_all (λ (y : Vec R Global). has_rows y.items) (xs ++ last ∷ [])) some in
    let split = sym (list_all-append (λ (y : Vec R Global). has_rows y.items) xs (last ∷ []))
    ∙ rest in
    and_from (has_rows b.items) (list_all (λ (y : Vec R Global). has_rows y.items) xs) here
    (and_left (list_all (λ (y : Vec R Global). has_rows y.items) xs)
    (list_all (λ (y : Vec R Global). has_rows y.items) (last ∷ [])) split)
all_joined {R = R} (x ∷ xs) last b d (suc at) e f some =
    and_from (has_rows x.items) (list_all (λ (y : Vec R Global). has_rows y.items) (set xs at b))
    (and_left (has_rows x.items) (list_all (λ (y : Vec R Global). has_rows y.items)
    (xs ++ last ∷ [])) some)
    (all_joined xs last b d at (omega (arith, e)) f
    (and_right (has_rows x.items)
    (list_all (λ (y : Vec R Global). has_rows y.items) (xs ++ last ∷ [])) some))

pub filled_joined : {R : Type 0} (bs : List (Vec R Global)) (last b d : Vec R Global) (at : ℕ)
    → at + 1 ≡ length bs → b.items ≡ (get_or bs at d).items ++ last.items
    → are_filled (bs ++ last ∷ []) ≡ true → are_filled (set bs at b) ≡ true
filled_joined [] last b d at e f some = absurd (omega (arith, e))
filled_joined {R = R} (x ∷ xs) last b d zero e f some =
    let split = sym (list_all-append (λ (y : Vec R Global). has_rows y.items) xs (last ∷ []))
    ∙ some in
    and_left (list_all (λ (y : Vec R Global). has_rows y.items) xs)
    (list_all (λ (y : Vec R Global). has_rows y.items) (last ∷ [])) split
filled_joined (x ∷ xs) last b d (suc at) e f some = all_joined xs last b d at (omega (arith, e)) f
    some

-- blocks that are changed, none of which is left empty

all_parted : {R : Type 0} (xs ys : List (Vec R Global)) → list_all (λ b. has_rows b.items) xs ≡ true
    → list_all (λ b. has_rows b.items) ys ≡ true
    → list_all (λ b. has_rows b.items) (xs ++ ys) ≡ true
all_parted [] ys e f = f
all_parted (x ∷ xs) ys e f =
    and_from (has_rows x.items) (list_all (λ b. has_rows b.items) (xs ++ ys))
    (and_left (has_rows x.items) (list_all (λ b. has_rows b.items) xs) e)
    (all_parted xs ys (and_right (has_rows x.items) (list_all (λ b. has_rows b.items) xs) e) f)

filled_both : {R : Type 0} (xs ys : List (Vec R Global)) → are_filled xs ≡ true
    → list_all (λ b. has_rows b.items) ys ≡ true → are_filled (xs ++ ys) ≡ true
filled_both [] ys e f = all_drop (λ b. has_rows b.items) 1 ys f
filled_both (x ∷ xs) ys e f = all_parted xs ys e f

row_there : {A : Type 0} (xs : List A) → (length xs == 0) ≡ false → has_rows xs ≡ true
row_there [] e = cc
row_there (x ∷ xs) e = refl

each_filled : {R : Type 0} (bs : List (Vec R Global))
    → list_any (λ b. length b.items == 0) bs ≡ false → list_all (λ b. has_rows b.items) bs ≡ true
each_filled [] e = refl
each_filled (b ∷ bs) e = and_from (has_rows b.items) (list_all (λ c. has_rows c.items) bs)
    (row_there b.items (or_left (length b.items == 0) (list_any (λ c. length c.items == 0) bs) e))
    (each_filled bs (or_right (length b.items == 0) (list_any (λ c. length c.items == 0) bs) e))

pub filled_within : {R : Type 0} (bs cut : List (Vec R Global)) (low high : ℕ) → low ≤ high
    → length cut ≡ length (take (high - low) (drop low bs))
    → list_any (λ b. length b.items == 0) cut ≡ false → are_filled (take low bs) ≡ true
    → are_filled bs ≡ true → are_filled (take low bs ++ (cut ++ drop high bs)) ≡ true
filled_within bs cut (suc low) zero le e some front all = absurd (omega (arith, le))
filled_within bs [] zero zero le e some front all = all
filled_within bs (c ∷ cut) zero zero le e some front all = cc
filled_within [] cut low (suc high) le e some front all = filled_both (take low []) (cut ++ [])
    front (all_parted cut [] (each_filled cut some) refl)
filled_within (b ∷ bs) cut low (suc high) le e some front all = filled_both (take low (b ∷ bs))
    (cut ++ drop high bs) front (all_parted cut (drop high bs) (each_filled cut some)
    (all_drop (λ b. has_rows b.items) high bs all))

pub whole_within : {R : Type 0} (bs cut : List (Vec R Global)) (low high : ℕ)
    → list_any (λ b. length b.items == 0) cut ≡ false → are_all_filled bs ≡ true
    → are_all_filled (take low bs ++ (cut ++ drop high bs)) ≡ true
whole_within bs cut low high some all =
    all_parted (take low bs) (cut ++ drop high bs) (all_take (λ b. has_rows b.items) low bs all)
    (all_parted cut (drop high bs) (each_filled cut some)
    (all_drop (λ b. has_rows b.items) high bs all))

-- the blocks after the first

pub behind_filled : {R : Type 0} (bs : List (Vec R Global)) (at : ℕ) → are_filled bs ≡ true
    → are_all_filled (drop (suc at) bs) ≡ true
behind_filled [] at all = refl
behind_filled (b ∷ bs) at all = all_drop (λ b. has_rows b.items) at bs all

pub filled_around : {R : Type 0} (front back : List (Vec R Global)) (b : Vec R Global)
    → are_filled front ≡ true → (length b.items == 0) ≡ false → are_all_filled back ≡ true
    → are_filled (front ++ (b ∷ [] ++ back)) ≡ true
filled_around front back b e some all =
    filled_both front (b ∷ back) e
    (and_from (has_rows b.items) (list_all (λ c. has_rows c.items) back)
    (row_there b.items some) all)

-- blocks that are changed in their place, and then those without rows are dropped
module _ {R : Type 0} (blocks : Vec (Vec R Global) Global) (old new : List (Vec R Global))
    (length_is : length new ≡ length old) (was : old ≡ blocks.items) where
  changed_are : (with_items blocks new).items ≡ new
  changed_are = with_items_is blocks new (length_is ∙ (ap length was ∙ sym blocks.ok.0))

  pub changed_filled : are_filled new ≡ true → are_filled (with_items blocks new).items ≡ true
  changed_filled filled = ap are_filled changed_are ∙ filled

  pub changed_rows : (change : List R → List R) (left : List (Vec R Global))
      → rows_in left ≡ rows_in (with_items blocks new).items
      → rows_in new ≡ change (rows_in old) → rows_in left ≡ change (rows_in blocks.items)
  changed_rows change left dropped changed =
      dropped ∙ (ap (λ (bs : List (Vec R Global)). rows_in bs) changed_are
      ∙ (changed ∙ ap (λ (bs : List (Vec R Global)). change (rows_in bs)) was))
