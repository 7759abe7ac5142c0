-- Changes and the waivers among them that end, read from two tables.
use Rattle.std.proofs.Common.{◌≡◌, ◌<◌, ℕ, zero, suc, Bool, true, false, List, [], ◌∷◌, ◌++◌, map}
use Rattle.std.proofs.Common.{filter, take, drop, get_or, length, Option, Some, None, refl, sym, ap}
use Rattle.std.proofs.Common.{subst, ◌∙◌, arith, is_eq, true≢false}
use Rattle.std.specs.Prelude.{◌==◌}
use Rattle.std.specs.List.{AllByRecursion}
use Rattle.std.proofs.lemmas.Bool.Decides.{nat_tests}
use Rattle.std.proofs.lemmas.Cmp.{tied_itself}
use Rattle.desk_base.proofs.Numbers.{numbers_equal}
use Rattle.sqlite_value.specs.Order.{Row}
use Rattle.sqlite_value.specs.declared.value.Value.TheVariants.{Text}
use Rattle.sqlite_trees.specs.Tree.{IsAscending}
use Rattle.sqlite_sql.specs.Query.{key_cmp}
use Rattle.sqlite_sql.proofs.QueryLemmas.{key_cmp_total}
use Rattle.sqlite_rules.specs.Lists.{Has}
use Rattle.sqlite_rules.proofs.ListLemmas.{has_filtered}
use Rattle.desk_sql_layout.specs.Cells.{number, text_or_null, waiver_cells}
use Rattle.desk_model.specs.Keys.{is_change_of}
use Rattle.desk_model.specs.declared.row.ChangeRow.{ChangeRow}
use Rattle.desk_model.specs.Moves.{is_waiver}
use Rattle.desk_sql_layout.specs.Shown.{EndsOnDay, ending_cells}
use Rattle.desk_sql_lookup.specs.Waivers.{AreSteps, waivers_in, taken}
use Rattle.desk_sql_layout.specs.Causes.{HasLastDay, IsRow}
use Rattle.desk_sql_layout.proofs.Causes.{filter_written}
use Rattle.desk_sql_layout.proofs.Ties.{keys, ascending_among}

filters_swap : {X : Type 0} (p q : X → Bool) (xs : List X)
    → filter p (filter q xs) ≡ filter q (filter p xs)
filters_swap p q [] = refl
filters_swap {X} p q (x ∷ xs) = go (filters_swap p q xs) (p x) (q x) refl refl
  where
    go : filter p (filter q xs) ≡ filter q (filter p xs) → (a b : Bool) → p x ≡ a → q x ≡ b
        → filter p (filter q (x ∷ xs)) ≡ filter q (filter p (x ∷ xs))
    go more true true e f = rw (f, e, f) (ap (λ l. x ∷ l) more)
    go more true false e f = rw (f, e, f) more
    go more false true e f = rw (f, e) more
    go more false false e f = rw (f, e) more

abbrev shown : ChangeRow → Row
shown x = number x.step ∷ text_or_null x.last_day ∷ []

shown_is : (xs : List ChangeRow)
    → map shown (filter is_waiver xs) ≡ map ending_cells (waivers_in xs)
shown_is [] = refl
shown_is (x ∷ xs) = go (shown_is xs) x.last_day refl
  where
    go : map shown (filter is_waiver xs) ≡ map ending_cells (waivers_in xs)
        → (day : Option (List ℕ)) → x.last_day ≡ day
        → map shown (filter is_waiver (x ∷ xs)) ≡ map ending_cells (waivers_in (x ∷ xs))
    go more None e = rw e more
    go more (Some day) e = rw e (ap (λ l. (number x.step ∷ Text day ∷ []) ∷ l) more)

-- what the table of waivers shows of a duty
pub waivers_shown : (p q : ChangeRow → Bool) (rows : List Row) (changes : List ChangeRow)
    → filter p changes ≡ filter q changes → rows ≡ map shown (filter p (filter is_waiver changes))
    → rows ≡ map ending_cells (waivers_in (filter q changes))
waivers_shown p q rows changes same is = is
    ∙ ap (map shown) (filters_swap p is_waiver changes ∙ ap (filter is_waiver) same)
    ∙ shown_is (filter q changes)

-- if no two changes of a duty have the same key, no two have the same step
pub are_steps : (duty : ℕ) (changes : List ChangeRow)
    → IsAscending (λ (a : ChangeRow) (b : ChangeRow). is_eq
    (key_cmp 0 (keys (1 ∷ 2 ∷ [])) (number a.duty ∷ number a.step ∷ [])
    (number b.duty ∷ number b.step ∷ [])) ≡ false) (filter (is_change_of duty) changes)
    → AreSteps (filter (is_change_of duty) changes)
are_steps duty changes apart = ascending_among _ _ (filter (is_change_of duty) changes) two apart
  where
    key : ChangeRow → Row
    key x = number x.duty ∷ number x.step ∷ []

    two : (a b : ChangeRow) → Has (filter (is_change_of duty) changes) a
        → Has (filter (is_change_of duty) changes) b
        → is_eq (key_cmp 0 (keys (1 ∷ 2 ∷ [])) (number a.duty ∷ number a.step ∷ [])
        (number b.duty ∷ number b.step ∷ [])) ≡ false → (a.step == b.step) ≡ false
    two a b ha hb apart = go (a.step == b.step) refl
      where
        go : (t : Bool) → (a.step == b.step) ≡ t → t ≡ false
        go false e = refl
        go true e =
            let da = numbers_equal a.duty duty (has_filtered (is_change_of duty) changes a ha).1 in
            let db = numbers_equal b.duty duty (has_filtered (is_change_of duty) changes b hb).1 in
            let same : (number a.duty ∷ number a.step ∷ []) ≡ (number b.duty ∷ number b.step ∷ []) =
            rw (da, db, numbers_equal a.step b.step e) refl in
            let tie : is_eq (key_cmp 0 (keys (1 ∷ 2 ∷ [])) (number a.duty ∷ number a.step ∷ [])
            (number b.duty ∷ number b.step ∷ [])) ≡ true =
            subst (λ k. is_eq (key_cmp 0 (keys (1 ∷ 2 ∷ [])) k (number b.duty ∷ number b.step ∷ []))
            ≡ true) (sym same) (ap is_eq (tied_itself (key_cmp_total (keys (1 ∷ 2 ∷ [])) 0)
            (number b.duty ∷ number b.step ∷ []))) in
            absurd (true≢false (sym tie ∙ apart))

-- a step takes its own waiver from those of this step and later ones
pub taken_is : (x : ChangeRow) (rest : List ChangeRow)
    → AllByRecursion (λ y. (x.step == y.step) ≡ false) rest
    → taken x.step (waivers_in (x ∷ rest)) ≡ (x.last_day, waivers_in rest)
taken_is x rest apart = here x.last_day refl
  where
    same : (n : ℕ) → (n == n) ≡ true
    same n = grind (arith, nat_tests)

    flip : (m n : ℕ) → (m == n) ≡ false → (n == m) ≡ false
    flip m n h = grind (arith, nat_tests)

    later : (ys : List ChangeRow) → AllByRecursion (λ y. (x.step == y.step) ≡ false) ys
        → taken x.step (waivers_in ys) ≡ (None, waivers_in ys)
    later [] h = refl
    later (y ∷ ys) h = go y.last_day refl (later ys h.1)
      where
        go : (day : Option (List ℕ)) → y.last_day ≡ day
            → taken x.step (waivers_in ys) ≡ (None, waivers_in ys)
            → taken x.step (waivers_in (y ∷ ys)) ≡ (None, waivers_in (y ∷ ys))
        go None e more = rw e more
        go (Some day) e more = rw (e, flip x.step y.step h.0) refl

    here : (day : Option (List ℕ)) → x.last_day ≡ day
        → taken x.step (waivers_in (x ∷ rest)) ≡ (x.last_day, waivers_in rest)
    here None e = rw e (later rest apart)
    here (Some day) e = rw (e, same x.step) refl

-- the item at a place, and those after it
pub front_rest : {X Y : Type 0} (f : X → Y) (R : X → X → Type 0) (xs : List X) (i : ℕ) (d : Y)
    → i < length (map f xs) → IsAscending R xs
    → (x : X) × (rest : List X) × (get_or (map f xs) i d ≡ f x)
    × (take (suc i) xs ≡ take i xs ++ x ∷ []) × (drop i xs ≡ x ∷ rest) × (drop (suc i) xs ≡ rest)
    × AllByRecursion (R x) rest
front_rest f R [] i d low up = absurd (omega arith)
front_rest f R (x ∷ xs) zero d low up = (x, xs, refl, refl, refl, refl, up.0)
front_rest f R (x ∷ xs) (suc i) d low up = let r = front_rest f R xs i d (omega arith) up.1 in
    (r.0, r.1, r.2, ap (λ l. x ∷ l) r.3, r.4, r.5, r.6)

-- the waivers of some changes can be read, as the table of waivers can
pub ends_written : (p : ChangeRow → Bool) (xs : List ChangeRow)
    → AllByRecursion IsRow (map waiver_cells (filter is_waiver xs))
    → AllByRecursion IsRow (map ending_cells (waivers_in (filter p xs)))
ends_written p xs all =
    subst (AllByRecursion IsRow) (ap (map shown) (filters_swap p is_waiver xs)
    ∙ shown_is (filter p xs)) (filter_written waiver_cells shown (λ x row. row.1) p
    (filter is_waiver xs) all)

pub ends_on_days : (xs : List ChangeRow) → AllByRecursion HasLastDay xs
    → AllByRecursion EndsOnDay (waivers_in xs)
ends_on_days [] all = tt
ends_on_days (x ∷ xs) all = go (ends_on_days xs all.1) x.last_day refl
  where
    go : AllByRecursion EndsOnDay (waivers_in xs) → (last : Option (List ℕ)) → x.last_day ≡ last
        → AllByRecursion EndsOnDay (waivers_in (x ∷ xs))
    go more None e = rw e more
    go more (Some day) e = rw e (rw e at all.0, more)
