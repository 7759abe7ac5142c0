-- Duties found by their numbers, and changes by their groups.
use Rattle.std.proofs.Common.{◌≡◌, ℕ, ◌+◌, ◌-◌, ◌<◌, Bool, true, false, List, [], ◌∷◌, ◌++◌, length}
use Rattle.std.proofs.Common.{zero, suc, Some, None, sym, refl, ap, ◌∙◌, subst, arith, append_assoc}
use Rattle.std.proofs.Common.{append-nil, length-append}
use Rattle.std.specs.Prelude.{if◌then◌else◌, find, filter, ◌&&◌, ◌==◌, slice_get, slice_set, slice_index_or, unwrap_or}
use Rattle.std.specs.List.{list_any, list_all}
use Rattle.std.proofs.lemmas.List.Elements.{filter-append}
use Rattle.std.proofs.lemmas.List.Folds.{list_all-append}
use Rattle.std.proofs.lemmas.Bool.Decides.{nat_tests}
use Rattle.std.proofs.lemmas.Bool.{and_from}
use Rattle.desk_model.specs.Lists.{put, updated}
use Rattle.desk_model.specs.Keys.{is_duty, is_change_of, change_below}
use Rattle.desk_memory_rows.specs.Ledgers.{stepped, grouped, all_of, more_at}
use Rattle.desk_model.specs.declared.row.DutyRow.{DutyRow}
use Rattle.desk_model.specs.declared.row.ChangeRow.{ChangeRow}
use Rattle.desk_base.proofs.Bools.{and_left, and_right, or_left, or_right}
use Rattle.desk_base.proofs.Numbers.{numbers_equal}
use Rattle.desk_access.specs.Follows.{are_numbered}
use Rattle.desk_tally.proofs.Moves.{numbered-append, updated_none}

-- Duties

pub find_below : (q n : ℕ) (rows : List DutyRow) → are_numbered n rows ≡ true → q < n
    → find (is_duty q) rows ≡ None
find_below q n [] e lt = refl
find_below q n (row ∷ rows) e lt =
    let here : row.number ≡ n = numbers_equal row.number n
    (and_left (row.number == n) (are_numbered (n + 1) rows) e) in
    let differ : (row.number == q) ≡ false = grind (arith, nat_tests) in
    rw differ (find_below q (n + 1) rows (and_right (row.number == n) (are_numbered (n + 1) rows) e)
    (omega arith))

-- the duty at the place i, counted from n
pub find_place : (n i : ℕ) (rows : List DutyRow) → are_numbered n rows ≡ true
    → find (is_duty (n + i)) rows ≡ slice_get rows i
find_place n i [] e = refl
find_place n zero (row ∷ rows) e =
    let here : row.number ≡ n = numbers_equal row.number n
    (and_left (row.number == n) (are_numbered (n + 1) rows) e) in
    let same : (row.number == n + 0) ≡ true = grind (arith, nat_tests) in
    rw same refl
find_place n (suc i) (row ∷ rows) e =
    let here : row.number ≡ n = numbers_equal row.number n
    (and_left (row.number == n) (are_numbered (n + 1) rows) e) in
    let differ : (row.number == n + suc i) ≡ false = grind (arith, nat_tests) in
    let next : n + suc i ≡ n + 1 + i = omega arith in
    rw differ (ap (λ k. find (is_duty k) rows) next
    ∙ find_place (n + 1) i rows (and_right (row.number == n) (are_numbered (n + 1) rows) e))

-- the duty at a place is changed
pub updated_place : (change : DutyRow → DutyRow) (n i : ℕ) (rows : List DutyRow) (row : DutyRow)
    → are_numbered n rows ≡ true → slice_get rows i ≡ Some row
    → updated (is_duty (n + i)) change rows ≡ slice_set rows i (change row)
updated_place change n i [] row e at = cc
updated_place change n zero (x ∷ rows) row e at =
    let here : x.number ≡ n = numbers_equal x.number n
    (and_left (x.number == n) (are_numbered (n + 1) rows) e) in
    let same : (x.number == n + 0) ≡ true = grind (arith, nat_tests) in
    let is : x ≡ row = cc in
    rw (
      same,
      updated_none change (n + 0) (n + 1) rows (and_right (x.number == n) (are_numbered (n + 1) rows) e)
          (omega arith),
    ) (ap (λ y. change y ∷ rows) is)
updated_place change n (suc i) (x ∷ rows) row e at =
    let here : x.number ≡ n = numbers_equal x.number n
    (and_left (x.number == n) (are_numbered (n + 1) rows) e) in
    let differ : (x.number == n + suc i) ≡ false = grind (arith, nat_tests) in
    let next : n + suc i ≡ n + 1 + i = omega arith in
    rw differ (ap (λ ys. x ∷ ys) (ap (λ k. updated (is_duty k) change rows) next
    ∙ updated_place change (n + 1) i rows row (and_right (x.number == n) (are_numbered (n + 1) rows) e)
    at))

pub numbered-updated : (change : DutyRow → DutyRow)
    → ((row : DutyRow) → (change row).number ≡ row.number) → (q n : ℕ) (rows : List DutyRow)
    → are_numbered n rows ≡ true → are_numbered n (updated (is_duty q) change rows) ≡ true
numbered-updated change keeps q n [] e = refl
numbered-updated change keeps q n (row ∷ rows) e =
    let here : (row.number == n) ≡ true = and_left (row.number == n) (are_numbered (n + 1) rows) e in
    let rest = numbered-updated change keeps q (n + 1) rows
    (and_right (row.number == n) (are_numbered (n + 1) rows) e) in
    elim (row.number == q) as (λ b. are_numbered n
    ((if b then change row else row) ∷ updated (is_duty q) change rows) ≡ true) [
      | true ↦ and_from ((change row).number == n)
          (are_numbered (n + 1) (updated (is_duty q) change rows))
          (ap (λ k. k == n) (keeps row) ∙ here) rest
      | false ↦ and_from (row.number == n) (are_numbered (n + 1) (updated (is_duty q) change rows)) here
          rest
    ]

-- Changes

pub filter_other : (q n k : ℕ) (rows : List ChangeRow) → stepped n k rows ≡ true → (n == q) ≡ false
    → filter (is_change_of q) rows ≡ []
filter_other q n k [] e f = refl
filter_other q n k (row ∷ rows) e f =
    let here = and_left ((row.duty == n) && (row.step == k)) (stepped n (k + 1) rows) e in
    let duty : row.duty ≡ n = numbers_equal row.duty n
    (and_left (row.duty == n) (row.step == k) here) in
    let differ : (row.duty == q) ≡ false = ap (λ d. d == q) duty ∙ f in
    rw differ (filter_other q n (k + 1) rows
    (and_right ((row.duty == n) && (row.step == k)) (stepped n (k + 1) rows) e) f)

pub filter_own : (n k : ℕ) (rows : List ChangeRow) → stepped n k rows ≡ true
    → filter (is_change_of n) rows ≡ rows
filter_own n k [] e = refl
filter_own n k (row ∷ rows) e =
    let here = and_left ((row.duty == n) && (row.step == k)) (stepped n (k + 1) rows) e in
    rw (and_left (row.duty == n) (row.step == k) here)
    (ap (λ xs. row ∷ xs) (filter_own n (k + 1) rows
    (and_right ((row.duty == n) && (row.step == k)) (stepped n (k + 1) rows) e)))

pub filter_below : (q n : ℕ) (groups : List (List ChangeRow)) → grouped n groups ≡ true → q < n
    → filter (is_change_of q) (all_of groups) ≡ []
filter_below q n [] e lt = refl
filter_below q n (g ∷ gs) e lt =
    let differ : (n == q) ≡ false = grind (arith, nat_tests) in
    filter-append (is_change_of q) g (all_of gs)
    ∙ rw (
      filter_other q n 1 g (and_left (stepped n 1 g) (grouped (n + 1) gs) e) differ,
      filter_below q (n + 1) gs (and_right (stepped n 1 g) (grouped (n + 1) gs) e) (omega arith),
    ) refl

-- the group at a place, or none
abbrev pub group_at : List (List ChangeRow) → ℕ → List ChangeRow
group_at [] i = []
group_at (g ∷ gs) zero = g
group_at (g ∷ gs) (suc i) = group_at gs i

pub filter_group : (n i : ℕ) (groups : List (List ChangeRow)) → grouped n groups ≡ true
    → filter (is_change_of (n + i)) (all_of groups) ≡ group_at groups i
filter_group n i [] e = refl
filter_group n zero (g ∷ gs) e =
    let here : n + 0 ≡ n = omega arith in
    ap (λ k. filter (is_change_of k) (g ++ all_of gs)) here
    ∙ (filter-append (is_change_of n) g (all_of gs)
    ∙ rw (
      filter_own n 1 g (and_left (stepped n 1 g) (grouped (n + 1) gs) e),
      filter_below n (n + 1) gs (and_right (stepped n 1 g) (grouped (n + 1) gs) e) (omega arith),
    ) (append-nil g))
filter_group n (suc i) (g ∷ gs) e =
    let differ : (n == n + suc i) ≡ false = grind (arith, nat_tests) in
    let next : n + suc i ≡ n + 1 + i = omega arith in
    filter-append (is_change_of (n + suc i)) g (all_of gs)
    ∙ rw (filter_other (n + suc i) n 1 g (and_left (stepped n 1 g) (grouped (n + 1) gs) e) differ)
    (ap (λ k. filter (is_change_of k) (all_of gs)) next
    ∙ filter_group (n + 1) i gs (and_right (stepped n 1 g) (grouped (n + 1) gs) e))

-- one more change of a duty

none_below : (row : ChangeRow) (n k : ℕ) (rows : List ChangeRow) → stepped n k rows ≡ true
    → n < row.duty → list_any (change_below row) rows ≡ false
none_below row n k [] e lt = refl
none_below row n k (x ∷ xs) e lt =
    let here = and_left ((x.duty == n) && (x.step == k)) (stepped n (k + 1) xs) e in
    let duty : x.duty ≡ n = numbers_equal x.duty n (and_left (x.duty == n) (x.step == k) here) in
    let over : change_below row x ≡ false = grind (arith, nat_tests) in
    rw over (none_below row n (k + 1) xs
    (and_right ((x.duty == n) && (x.step == k)) (stepped n (k + 1) xs) e) lt)

own_below : (row : ChangeRow) (n k : ℕ) (rows : List ChangeRow) → stepped n k rows ≡ true
    → row.duty ≡ n → row.step ≡ k + length rows → list_any (change_below row) rows ≡ false
own_below row n k [] e d s = refl
own_below row n k (x ∷ xs) e d s =
    let here = and_left ((x.duty == n) && (x.step == k)) (stepped n (k + 1) xs) e in
    let duty : x.duty ≡ n = numbers_equal x.duty n (and_left (x.duty == n) (x.step == k) here) in
    let step : x.step ≡ k = numbers_equal x.step k (and_right (x.duty == n) (x.step == k) here) in
    let over : change_below row x ≡ false = grind (arith, nat_tests) in
    rw over (own_below row n (k + 1) xs
    (and_right ((x.duty == n) && (x.step == k)) (stepped n (k + 1) xs) e) d (omega arith))

all_above : (row : ChangeRow) (n k : ℕ) (rows : List ChangeRow) → stepped n k rows ≡ true
    → row.duty < n → list_all (change_below row) rows ≡ true
all_above row n k [] e lt = refl
all_above row n k (x ∷ xs) e lt =
    let here = and_left ((x.duty == n) && (x.step == k)) (stepped n (k + 1) xs) e in
    let duty : x.duty ≡ n = numbers_equal x.duty n (and_left (x.duty == n) (x.step == k) here) in
    let under : change_below row x ≡ true = grind (arith, nat_tests) in
    rw under (all_above row n (k + 1) xs
    (and_right ((x.duty == n) && (x.step == k)) (stepped n (k + 1) xs) e) lt)

groups_above : (row : ChangeRow) (n : ℕ) (groups : List (List ChangeRow)) → grouped n groups ≡ true
    → row.duty < n → list_all (change_below row) (all_of groups) ≡ true
groups_above row n [] e lt = refl
groups_above row n (g ∷ gs) e lt =
    list_all-append (change_below row) g (all_of gs)
    ∙ and_from (list_all (change_below row) g) (list_all (change_below row) (all_of gs))
    (all_above row n 1 g (and_left (stepped n 1 g) (grouped (n + 1) gs) e) lt)
    (groups_above row (n + 1) gs (and_right (stepped n 1 g) (grouped (n + 1) gs) e) (omega arith))

put_first : (row : ChangeRow) (ys : List ChangeRow) → list_all (change_below row) ys ≡ true
    → put change_below row ys ≡ row ∷ ys
put_first row [] all = refl
put_first row (y ∷ ys) all = rw (and_left (change_below row y) (list_all (change_below row) ys) all)
    refl

put_past : (row : ChangeRow) (ys zs : List ChangeRow) → list_any (change_below row) ys ≡ false
    → put change_below row (ys ++ zs) ≡ ys ++ put change_below row zs
put_past row [] zs none = refl
put_past row (y ∷ ys) zs none =
    rw (
      or_left (change_below row y) (list_any (change_below row) ys) none,
      put_past row ys zs (or_right (change_below row y) (list_any (change_below row) ys) none),
    ) refl

pub put_group : (n i : ℕ) (groups : List (List ChangeRow)) (row : ChangeRow)
    → grouped n groups ≡ true → i < length groups → row.duty ≡ n + i
    → row.step ≡ length (group_at groups i) + 1
    → put change_below row (all_of groups) ≡ all_of (more_at groups i row)
put_group n i [] row e lt d s = absurd (omega arith)
put_group n zero (g ∷ gs) row e lt d s =
    let mine = and_left (stepped n 1 g) (grouped (n + 1) gs) e in
    let rest = and_right (stepped n 1 g) (grouped (n + 1) gs) e in
    put_past row g (all_of gs) (own_below row n 1 g mine (omega arith) (omega arith))
    ∙ (ap (λ xs. g ++ xs) (put_first row (all_of gs)
    (groups_above row (n + 1) gs rest (omega arith)))
    ∙ sym (append_assoc g (row ∷ []) (all_of gs)))
put_group n (suc i) (g ∷ gs) row e lt d s =
    let mine = and_left (stepped n 1 g) (grouped (n + 1) gs) e in
    let rest = and_right (stepped n 1 g) (grouped (n + 1) gs) e in
    put_past row g (all_of gs) (none_below row n 1 g mine (omega arith))
    ∙ ap (λ xs. g ++ xs) (put_group (n + 1) i gs row rest (omega arith) (omega arith) s)

stepped-push : (n k : ℕ) (rows : List ChangeRow) (row : ChangeRow) → stepped n k rows ≡ true
    → row.duty ≡ n → row.step ≡ k + length rows → stepped n k (rows ++ row ∷ []) ≡ true
stepped-push n k [] row e d s =
    let a : (row.duty == n) ≡ true = grind (arith, nat_tests) in
    let b : (row.step == k) ≡ true = grind (arith, nat_tests) in
    and_from ((row.duty == n) && (row.step == k)) true
    (and_from (row.duty == n) (row.step == k) a b) refl
stepped-push n k (x ∷ xs) row e d s =
    and_from ((x.duty == n) && (x.step == k)) (stepped n (k + 1) (xs ++ row ∷ []))
    (and_left ((x.duty == n) && (x.step == k)) (stepped n (k + 1) xs) e)
    (stepped-push n (k + 1) xs row
    (and_right ((x.duty == n) && (x.step == k)) (stepped n (k + 1) xs) e) d (omega arith))

pub grouped-more : (n i : ℕ) (groups : List (List ChangeRow)) (row : ChangeRow)
    → grouped n groups ≡ true → row.duty ≡ n + i → row.step ≡ length (group_at groups i) + 1
    → grouped n (more_at groups i row) ≡ true
grouped-more n i [] row e d s = refl
grouped-more n zero (g ∷ gs) row e d s =
    and_from (stepped n 1 (g ++ row ∷ [])) (grouped (n + 1) gs)
    (stepped-push n 1 g row (and_left (stepped n 1 g) (grouped (n + 1) gs) e) (omega arith)
    (omega arith)) (and_right (stepped n 1 g) (grouped (n + 1) gs) e)
grouped-more n (suc i) (g ∷ gs) row e d s =
    and_from (stepped n 1 g) (grouped (n + 1) (more_at gs i row))
    (and_left (stepped n 1 g) (grouped (n + 1) gs) e)
    (grouped-more (n + 1) i gs row (and_right (stepped n 1 g) (grouped (n + 1) gs) e) (omega arith)
    s)

-- more groups

pub grouped-append : (n : ℕ) (groups more : List (List ChangeRow)) → grouped n groups ≡ true
    → grouped (n + length groups) more ≡ true → grouped n (groups ++ more) ≡ true
grouped-append n [] more e f = subst (λ k. grouped k more ≡ true)
    (let z : n + 0 ≡ n = omega arith in z) f
grouped-append n (g ∷ gs) more e f =
    and_from (stepped n 1 g) (grouped (n + 1) (gs ++ more))
    (and_left (stepped n 1 g) (grouped (n + 1) gs) e)
    (grouped-append (n + 1) gs more (and_right (stepped n 1 g) (grouped (n + 1) gs) e)
    (subst (λ k. grouped k more ≡ true)
    (let z : n + suc (length gs) ≡ n + 1 + length gs = omega arith in z) f))

pub all_of-append : (groups more : List (List ChangeRow))
    → all_of (groups ++ more) ≡ all_of groups ++ all_of more
all_of-append [] more = refl
all_of-append (g ∷ gs) more = ap (λ xs. g ++ xs) (all_of-append gs more)
    ∙ sym (append_assoc g (all_of gs) (all_of more))

pub group_at-get : (groups : List (List ChangeRow)) (i : ℕ)
    → unwrap_or (slice_get groups i) [] ≡ group_at groups i
group_at-get [] i = refl
group_at-get (g ∷ gs) zero = refl
group_at-get (g ∷ gs) (suc i) = group_at-get gs i

pub find_number : (q : ℕ) (rows : List DutyRow) → are_numbered 1 rows ≡ true → 0 < q
    → slice_get rows (q - 1) ≡ find (is_duty q) rows
find_number q rows e lt = sym (ap (λ k. find (is_duty k) rows)
    (let z : q ≡ 1 + (q - 1) = omega arith in z) ∙ find_place 1 (q - 1) rows e)

pub filter_number : (q : ℕ) (groups : List (List ChangeRow)) → grouped 1 groups ≡ true → 0 < q
    → unwrap_or (slice_get groups (q - 1)) [] ≡ filter (is_change_of q) (all_of groups)
filter_number q groups e lt = group_at-get groups (q - 1)
    ∙ sym (ap (λ k. filter (is_change_of k) (all_of groups))
    (let z : q ≡ 1 + (q - 1) = omega arith in z) ∙ filter_group 1 (q - 1) groups e)

pub get_some : {A : Type 0} (xs : List A) (i : ℕ) (x : A) → i < length xs
    → x ≡ slice_index_or xs i x → slice_get xs i ≡ Some x
get_some [] i x lt e = absurd (omega arith)
get_some (y ∷ ys) zero x lt e = ap Some (sym e)
get_some (y ∷ ys) (suc i) x lt e = get_some ys i x (omega arith) e

pub set_more : (groups : List (List ChangeRow)) (i : ℕ) (g : List ChangeRow) (row : ChangeRow)
    → slice_get groups i ≡ Some g → slice_set groups i (g ++ row ∷ []) ≡ more_at groups i row
set_more [] i g row e = refl
set_more (x ∷ xs) zero g row e = let same : x ≡ g = cc in ap (λ y. (y ++ row ∷ []) ∷ xs) (sym same)
set_more (x ∷ xs) (suc i) g row e = ap (λ ys. x ∷ ys) (set_more xs i g row e)

single : (n : ℕ) (row : ChangeRow) → row.duty ≡ n → row.step ≡ 1
    → grouped n ((row ∷ []) ∷ []) ≡ true
single n row d s =
    let a : (row.duty == n) ≡ true = grind (arith, nat_tests) in
    let b : (row.step == 1) ≡ true = grind (arith, nat_tests) in
    rw (a, b) refl

pub record SinglesOn (first : ℕ) (seen : List ChangeRow) (row : ChangeRow)
    (groups : List (List ChangeRow)) : Type 0 where
  pub grouped_on : grouped first groups ≡ true
  pub all_on : all_of groups ≡ seen ++ row ∷ []
  pub count_on : length groups ≡ length (seen ++ row ∷ [])

pub singles_push : (first n : ℕ) (seen : List ChangeRow) (row : ChangeRow) (group : List ChangeRow)
    (groups more : List (List ChangeRow)) → n ≡ first + length seen → grouped first groups ≡ true
    → all_of groups ≡ seen → length groups ≡ length seen → row.duty ≡ n → row.step ≡ 1
    → group ≡ [] ++ row ∷ [] → more ≡ groups ++ group ∷ [] → SinglesOn first seen row more
singles_push first n seen row group groups more e g a k d s is grown =
    let one : more ≡ groups ++ (row ∷ []) ∷ [] = grown
    ∙ ap (λ (x : List ChangeRow). groups ++ x ∷ []) is in
    record {
      grouped_on = ap (grouped first) one
          ∙ grouped-append first groups ((row ∷ []) ∷ []) g
          (single (first + length groups) row (omega arith) s);
      all_on = ap all_of one ∙ (all_of-append groups ((row ∷ []) ∷ [])
          ∙ ap (λ xs. xs ++ row ∷ []) a);
      count_on = omega (
        arith,
        ap length one,
        length-append groups ((row ∷ []) ∷ []),
        length-append seen (row ∷ []),
      );
    }

pub next_step : (q place steps step : ℕ) (groups : List (List ChangeRow)) → grouped 1 groups ≡ true
    → q ≡ 1 + place → steps ≡ length (filter (is_change_of q) (all_of groups)) → step ≡ steps + 1
    → step ≡ length (group_at groups place) + 1
next_step q place steps step groups e d f s =
    let same : length (filter (is_change_of q) (all_of groups)) ≡ length (group_at groups place) =
    ap (λ k. length (filter (is_change_of k) (all_of groups))) d
    ∙ ap length (filter_group 1 place groups e) in
    omega (arith, s, f, same)

-- more duties, or none if there was no room
pub numbered_either : (b : Bool) (rows more : List DutyRow) → are_numbered 1 rows ≡ true
    → are_numbered (1 + length rows) more ≡ true → are_numbered 1 (if b then rows ++ more else rows) ≡ true
numbered_either true rows more e f = numbered-append 1 rows more e f
numbered_either false rows more e f = e
