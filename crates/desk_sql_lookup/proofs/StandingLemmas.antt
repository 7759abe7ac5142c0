-- The standings of duties, one after another.
use Rattle.std.proofs.Common.{◌≡◌, ◌<◌, ◌+◌, ◌-◌, slice_get, ℕ, zero, suc, Bool, true, false}
use Rattle.std.proofs.Common.{List, [], ◌∷◌, ◌++◌, map, filter, take, length, get_or, Option, Some}
use Rattle.std.proofs.Common.{None, refl, sym, ap, ◌∙◌, arith, add-one}
use Rattle.std.proofs.lemmas.List.{map_push}
use Rattle.std.specs.Prelude.{bytes_eq}
use Rattle.std.specs.List.{filter_map, last_or}
use Rattle.desk_history.specs.FromTables.{standing_found, ends}
use Rattle.desk_model.specs.Keys.{is_change_of}
use Rattle.desk_model.specs.Names.{duty_state_name}
use Rattle.desk_model.specs.States.{is_waived}
use Rattle.desk_model.specs.Tables.{Tables}
use Rattle.desk_model.specs.declared.row.ChangeRow.{ChangeRow}
use Rattle.desk_model.specs.declared.row.DutyRow.{DutyRow}
use Rattle.desk_model.specs.declared.row.Standing.{Standing}
use Rattle.desk_model.specs.declared.state.DutyState.{DutyState}
use Rattle.desk_model.specs.declared.state.DutyState.TheVariants as duty
use Rattle.desk_sql_lookup.specs.Standings.{and_some, stands_at, has_end_before, ended_standing}

pub take_suc : {X : Type 0} (xs : List X) (i : ℕ) (x : X) → i < length xs → x ≡ get_or xs i x
    → take (suc i) xs ≡ take i xs ++ x ∷ []
take_suc [] i x low is = absurd (omega arith)
take_suc (y ∷ xs) zero x low is = ap (λ z. z ∷ []) (sym is)
take_suc (y ∷ xs) (suc i) x low is = ap (λ l. y ∷ l) (take_suc xs i x (omega arith) is)

pub map_more : {X Y : Type 0} (f : X → Y) (xs : List X) (i : ℕ) (x : X) → i < length xs
    → x ≡ get_or xs i x → map f (take (i + 1) xs) ≡ map f (take i xs) ++ f x ∷ []
map_more f xs i x low is = ap (λ n. map f (take n xs)) (add-one i)
    ∙ ap (map f) (take_suc xs i x low is) ∙ map_push f (take i xs) x

some_last : {X Y : Type 0} (f : X → Option Y) (xs : List X) (x : X) (y : Y) → f x ≡ Some y
    → filter_map f (xs ++ x ∷ []) ≡ filter_map f xs ++ y ∷ []
some_last f [] x y is = rw is refl
some_last {X} {Y} f (z ∷ xs) x y is = go (some_last f xs x y is) (f z) refl
  where
    go : filter_map f (xs ++ x ∷ []) ≡ filter_map f xs ++ y ∷ [] → (o : Option Y) → f z ≡ o
        → filter_map f ((z ∷ xs) ++ x ∷ []) ≡ filter_map f (z ∷ xs) ++ y ∷ []
    go more None e = rw e more
    go more (Some w) e = rw e (ap (λ l. w ∷ l) more)

none_last : {X Y : Type 0} (f : X → Option Y) (xs : List X) (x : X) → f x ≡ None
    → filter_map f (xs ++ x ∷ []) ≡ filter_map f xs
none_last f [] x is = rw is refl
none_last {X} {Y} f (z ∷ xs) x is = go (none_last f xs x is) (f z) refl
  where
    go : filter_map f (xs ++ x ∷ []) ≡ filter_map f xs → (o : Option Y) → f z ≡ o
        → filter_map f ((z ∷ xs) ++ x ∷ []) ≡ filter_map f (z ∷ xs)
    go more None e = rw e more
    go more (Some w) e = rw e (ap (λ l. w ∷ l) more)

pub some_more : (f : DutyRow → Option Standing) (xs : List DutyRow) (i : ℕ) (x : DutyRow)
    → i < length xs → x ≡ get_or xs i x
    → filter_map f (take (i + 1) xs) ≡ and_some (filter_map f (take i xs)) (f x)
some_more f xs i x low is = ap (λ n. filter_map f (take n xs)) (add-one i)
    ∙ ap (filter_map f) (take_suc xs i x low is) ∙ go (f x) refl
  where
    go : (o : Option Standing) → f x ≡ o
        → filter_map f (take i xs ++ x ∷ []) ≡ and_some (filter_map f (take i xs)) (f x)
    go None e = none_last f (take i xs) x e ∙ ap (and_some (filter_map f (take i xs))) (sym e)
    go (Some y) e = some_last f (take i xs) x y e ∙ ap (and_some (filter_map f (take i xs))) (sym e)

last_at : (before : Option ChangeRow) (row : ChangeRow) (rows : List ChangeRow)
    → slice_get (row ∷ rows) (length rows) ≡ last_or before (row ∷ rows)
last_at before row [] = refl
last_at before row (next ∷ rows) = last_at (Some row) next rows

pub last_is : (rows : List ChangeRow) → slice_get rows (length rows - 1) ≡ last_or None rows
last_is [] = refl
last_is (row ∷ rows) = let e : length (row ∷ rows) - 1 ≡ length rows = omega arith in
    ap (slice_get (row ∷ rows)) e ∙ last_at None row rows

waived_is : (state : DutyState)
    → bytes_eq (duty_state_name state) (duty_state_name duty.Waived) ≡ is_waived state
waived_is duty.IsOpen = refl
waived_is duty.Met = refl
waived_is duty.Waived = refl
waived_is duty.Withdrawn = refl

-- the waived duties whose waivers ended
pub ended_are : (t : Tables) (day : List ℕ) (rows : List DutyRow)
    → filter_map (ended_standing t day) (filter (stands_at (duty_state_name duty.Waived)) rows)
    ≡ map (standing_found t) (filter (ends t day) rows)
ended_are t day [] = refl
ended_are t day (x ∷ xs) = go (ended_are t day xs) (is_waived x.state)
    (has_end_before day (filter (is_change_of x.number) t.changes)) refl refl
  where
    go : filter_map (ended_standing t day) (filter (stands_at (duty_state_name duty.Waived)) xs)
        ≡ map (standing_found t) (filter (ends t day) xs) → (a b : Bool) → is_waived x.state ≡ a
        → has_end_before day (filter (is_change_of x.number) t.changes) ≡ b
        → filter_map (ended_standing t day)
        (filter (stands_at (duty_state_name duty.Waived)) (x ∷ xs))
        ≡ map (standing_found t) (filter (ends t day) (x ∷ xs))
    go more true true e f = rw (waived_is x.state, e, f) (ap (λ l. standing_found t x ∷ l) more)
    go more true false e f = rw (waived_is x.state, e, f) more
    go more false b e f = rw (waived_is x.state, e) more
