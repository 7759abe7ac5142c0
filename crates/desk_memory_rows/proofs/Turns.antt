-- Changes that are the next ones of their duties.
use Rattle.std.proofs.Common.{◌≡◌, ℕ, zero, suc, ◌+◌, ◌-◌, ◌<◌, ◌≤◌, Bool, true, false, List}
use Rattle.std.proofs.Common.{[], ◌∷◌, ◌++◌, length, map, refl, sym, ap, ◌∙◌, subst, arith}
use Rattle.std.specs.Prelude.{◌==◌, ◌&&◌, nat_le, nat_lt, filter, is_ok, is_some, Result, Ok, Err}
use Rattle.std.specs.Result.{IsOk}
use Rattle.std.specs.List.{list_all}
use Rattle.std.proofs.lemmas.List.Elements.{filter-append}
use Rattle.std.proofs.lemmas.Bool.Decides.{nat_tests}
use Rattle.std.proofs.lemmas.Bool.{and_from}
use Rattle.desk_model.specs.Keys.{is_change_of, is_duty}
use Rattle.desk_model.specs.Lists.{updated}
use Rattle.desk_model.specs.Tables.{Tables, with_duty_state}
use Rattle.desk_model.specs.declared.command.Change.{Change}
use Rattle.desk_model.specs.declared.command.Change.TheVariants as change
use Rattle.desk_model.specs.declared.row.ChangeRow.{ChangeRow}
use Rattle.desk_model.specs.declared.row.DutyRow.{DutyRow}
use Rattle.desk_history.specs.FromTables.{duty_found, steps_found}
use Rattle.desk_access.specs.Follows.{Follows, AreNext, are_first, are_next, are_numbered, are_of_duties, rise}
use Rattle.desk_memory_rows.specs.declared.ledger.Place.{Place}
use Rattle.desk_memory_rows.specs.Ledgers.{AreSingles, AreWithin, all_of, are_in_turn, can_append}
use Rattle.desk_memory_rows.specs.Ledgers.{can_take, is_in_turn, is_within, more_at}
use Rattle.desk_memory_rows.specs.Ledgers.{place_of, standing_by}
use Rattle.desk_memory_rows.proofs.Ledgering.{SinglesOn, singles_push}
use Rattle.desk_base.proofs.Bools.{and_left, and_right}
use Rattle.desk_base.proofs.Numbers.{numbers_equal}
use Rattle.desk_tally.proofs.Steps.{found_within}

-- First changes

first_left : (n : ℕ) (xs ys : List ChangeRow) → are_first n (xs ++ ys) ≡ true
    → are_first n xs ≡ true
first_left n [] ys e = refl
first_left n (x ∷ xs) ys e =
    and_from ((x.duty == n) && (x.step == 1)) (are_first (n + 1) xs)
    (and_left ((x.duty == n) && (x.step == 1)) (are_first (n + 1) (xs ++ ys)) e)
    (first_left (n + 1) xs ys (and_right ((x.duty == n) && (x.step == 1))
    (are_first (n + 1) (xs ++ ys)) e))

first_last : (n : ℕ) (xs : List ChangeRow) (y : ChangeRow) → are_first n (xs ++ y ∷ []) ≡ true
    → (y.duty ≡ n + length xs) × (y.step ≡ 1)
first_last n [] y e =
    let here = and_left ((y.duty == n) && (y.step == 1)) true e in (
      omega (arith, numbers_equal y.duty n (and_left (y.duty == n) (y.step == 1) here)),
      numbers_equal y.step 1 (and_right (y.duty == n) (y.step == 1) here),
    )
first_last n (x ∷ xs) y e =
    let later = first_last (n + 1) xs y
    (and_right ((x.duty == n) && (x.step == 1)) (are_first (n + 1) (xs ++ y ∷ [])) e) in
    (omega (arith, later.0), later.1)

pub singles_none : (n : ℕ) → AreSingles n [] []
singles_none n = (refl, refl, refl)

pub singles_more : (n : ℕ) (seen : List ChangeRow) (row : ChangeRow) (group : List ChangeRow)
    (groups more : List (List ChangeRow))
    → (are_first n seen ≡ true → AreSingles n seen groups) → group ≡ [] ++ row ∷ []
    → more ≡ groups ++ group ∷ [] → are_first n (seen ++ row ∷ []) ≡ true
    → AreSingles n (seen ++ row ∷ []) more
singles_more n seen row group groups more before is grown e =
    let has = before (first_left n seen (row ∷ []) e) in
    let last = first_last n seen row e in
    let on : SinglesOn n seen row more =
    singles_push n (n + length seen) seen row group groups more refl has.0 has.1 has.2 last.0 last.1
    is grown in
    (on.grouped_on, on.all_on, on.count_on)

-- Next changes

turn_low : (n count : ℕ) (all : List ChangeRow) (row : ChangeRow)
    → is_in_turn n count all row ≡ true → n < row.duty
turn_low n count all row e =
    let low : nat_lt n row.duty ≡ true =
    and_left (nat_lt n row.duty) (nat_le row.duty count
    && (row.step == length (filter (is_change_of row.duty) all) + 1)) e in
    grind (arith, nat_tests)

turn_high : (n count : ℕ) (all : List ChangeRow) (row : ChangeRow)
    → is_in_turn n count all row ≡ true → row.duty ≤ count
turn_high n count all row e =
    let steps = row.step == length (filter (is_change_of row.duty) all) + 1 in
    let high : nat_le row.duty count ≡ true =
    and_left (nat_le row.duty count) steps
    (and_right (nat_lt n row.duty) (nat_le row.duty count && steps) e) in
    grind (arith, nat_tests)

turn_step : (n count : ℕ) (all : List ChangeRow) (row : ChangeRow)
    → is_in_turn n count all row ≡ true → row.step ≡ length (filter (is_change_of row.duty) all) + 1
turn_step n count all row e =
    let steps = row.step == length (filter (is_change_of row.duty) all) + 1 in
    numbers_equal row.step (length (filter (is_change_of row.duty) all) + 1)
    (and_right (nat_le row.duty count) steps
    (and_right (nat_lt n row.duty) (nat_le row.duty count && steps) e))

pub is_turn : (n count : ℕ) (all : List ChangeRow) (row : ChangeRow) → n < row.duty
    → row.duty ≤ count → row.step ≡ length (filter (is_change_of row.duty) all) + 1
    → is_in_turn n count all row ≡ true
is_turn n count all row low high next =
    let steps = row.step == length (filter (is_change_of row.duty) all) + 1 in
    let a : nat_lt n row.duty ≡ true = grind (arith, nat_tests) in
    let b : nat_le row.duty count ≡ true = grind (arith, nat_tests) in
    let s : steps ≡ true = grind (arith, nat_tests) in
    and_from (nat_lt n row.duty) (nat_le row.duty count && steps) a
    (and_from (nat_le row.duty count) steps b s)

-- the last of them has the highest duty
pub last_turn : (n count : ℕ) (all front : List ChangeRow) (row : ChangeRow)
    → are_in_turn n count all (front ++ row ∷ []) ≡ true
    → (n < row.duty) × (row.duty ≤ count)
    × (row.step ≡ length (filter (is_change_of row.duty) all) + 1)
last_turn n count all [] row e =
    let here = and_left (is_in_turn n count all row) true e in
    (turn_low n count all row here, turn_high n count all row here, turn_step n count all row here)
last_turn n count all (x ∷ xs) row e =
    let low = turn_low n count all x
    (and_left (is_in_turn n count all x) (are_in_turn x.duty count all (xs ++ row ∷ [])) e) in
    let later = last_turn x.duty count all xs row
    (and_right (is_in_turn n count all x) (are_in_turn x.duty count all (xs ++ row ∷ [])) e) in
    (omega (arith, low, later.0), later.1, later.2)

-- a change of another duty doesn't count
filter_more : (q : ℕ) (groups : List (List ChangeRow)) (i : ℕ) (row : ChangeRow)
    → (row.duty == q) ≡ false → filter (is_change_of q) (all_of (more_at groups i row))
    ≡ filter (is_change_of q) (all_of groups)
filter_more q [] i row other = refl
filter_more q (g ∷ gs) zero row other =
    filter-append (is_change_of q) (g ++ row ∷ []) (all_of gs)
    ∙ (ap (λ (xs : List ChangeRow). xs ++ filter (is_change_of q) (all_of gs))
    (filter-append (is_change_of q) g (row ∷ [])
    ∙ rw other (append_nil (filter (is_change_of q) g)))
    ∙ sym (filter-append (is_change_of q) g (all_of gs)))
  where
    append_nil : (xs : List ChangeRow) → xs ++ [] ≡ xs
    append_nil [] = refl
    append_nil (x ∷ xs) = ap (λ (ys : List ChangeRow). x ∷ ys) (append_nil xs)
filter_more q (g ∷ gs) (suc i) row other =
    filter-append (is_change_of q) g (all_of (more_at gs i row))
    ∙ (ap (λ (xs : List ChangeRow). filter (is_change_of q) g ++ xs) (filter_more q gs i row other)
    ∙ sym (filter-append (is_change_of q) g (all_of gs)))

-- those before the last one are still next after that is put after the others
front_turn : (n count : ℕ) (groups : List (List ChangeRow)) (i : ℕ) (front : List ChangeRow)
    (row : ChangeRow) → are_in_turn n count (all_of groups) (front ++ row ∷ []) ≡ true
    → are_in_turn n count (all_of (more_at groups i row)) front ≡ true
front_turn n count groups i [] row e = refl
front_turn n count groups i (x ∷ xs) row e =
    let here = and_left (is_in_turn n count (all_of groups) x)
    (are_in_turn x.duty count (all_of groups) (xs ++ row ∷ [])) e in
    let rest = and_right (is_in_turn n count (all_of groups) x)
    (are_in_turn x.duty count (all_of groups) (xs ++ row ∷ [])) e in
    let above = (last_turn x.duty count (all_of groups) xs row rest).0 in
    let other : (row.duty == x.duty) ≡ false = grind (arith, nat_tests) in
    and_from (is_in_turn n count (all_of (more_at groups i row)) x)
    (are_in_turn x.duty count (all_of (more_at groups i row)) xs)
    (is_turn n count (all_of (more_at groups i row)) x (turn_low n count (all_of groups) x here)
    (turn_high n count (all_of groups) x here)
    (turn_step n count (all_of groups) x here
    ∙ ap (λ (xs : List ChangeRow). length xs + 1) (sym (filter_more x.duty groups i row other))))
    (front_turn x.duty count groups i xs row rest)

pub left_turn : (count : ℕ) (groups later : List (List ChangeRow)) (front left : List ChangeRow)
    (row : ChangeRow) → left ≡ front ++ row ∷ [] → later ≡ more_at groups (row.duty - 1) row
    → are_in_turn 0 count (all_of groups) left ≡ true
    → are_in_turn 0 count (all_of later) front ≡ true
left_turn count groups later front left row split more e =
    subst (λ (gs : List (List ChangeRow)). are_in_turn 0 count (all_of gs) front ≡ true) (sym more)
    (front_turn 0 count groups (row.duty - 1) front row
    (subst (λ (xs : List ChangeRow). are_in_turn 0 count (all_of groups) xs ≡ true) split e))

pub within_turn : (n count : ℕ) (all rows : List ChangeRow) → are_in_turn n count all rows ≡ true
    → AreWithin count (map place_of rows)
within_turn n count all [] e = refl
within_turn n count all (row ∷ rows) e =
    let here = and_left (is_in_turn n count all row) (are_in_turn row.duty count all rows) e in
    let low = turn_low n count all row here in
    let high = turn_high n count all row here in
    let a : nat_le 1 row.duty ≡ true = grind (arith, nat_tests) in
    let b : nat_le row.duty count ≡ true = grind (arith, nat_tests) in
    and_from (is_within count (place_of row)) (list_all (is_within count) (map place_of rows))
    (and_from (nat_le 1 row.duty) (nat_le row.duty count) a b)
    (within_turn row.duty count all rows
    (and_right (is_in_turn n count all row) (are_in_turn row.duty count all rows) e))

pub within_places : (n count : ℕ) (all rows : List ChangeRow) (places : List Place)
    → are_in_turn 0 count all rows ≡ true → count ≡ n → map place_of rows ≡ places
    → AreWithin n places
within_places n count all rows places e same told =
    subst (λ (ps : List Place). AreWithin n ps) told
    (subst (λ (k : ℕ). AreWithin k (map place_of rows)) same (within_turn 0 count all rows e))

length-updated : (test : DutyRow → Bool) (change : DutyRow → DutyRow) (rows : List DutyRow)
    → length (updated test change rows) ≡ length rows
length-updated test change [] = refl
length-updated test change (row ∷ rows) = omega (arith, length-updated test change rows)

pub length-standing : (places : List Place) (rows : List DutyRow)
    → length (standing_by places rows) ≡ length rows
length-standing [] rows = refl
length-standing (place ∷ places) rows = length-updated (is_duty place.duty)
    (with_duty_state place.state) (standing_by places rows) ∙ length-standing places rows

-- What follows some tables is taken

abbrev numbers_of : List DutyRow → List ℕ
numbers_of rows = map (λ (row : DutyRow). row.number) rows

abbrev duties_of : List ChangeRow → List ℕ
duties_of rows = map (λ (row : ChangeRow). row.duty) rows

numbers_above : (m n : ℕ) (rows : List DutyRow) → m < n → are_numbered n rows ≡ true
    → list_all (nat_lt m) (numbers_of rows) ≡ true
numbers_above m n [] lt e = refl
numbers_above m n (row ∷ rows) lt e =
    let same : row.number ≡ n = numbers_equal row.number n
    (and_left (row.number == n) (are_numbered (n + 1) rows) e) in
    let here : nat_lt m row.number ≡ true = grind (arith, nat_tests) in
    and_from (nat_lt m row.number) (list_all (nat_lt m) (numbers_of rows)) here
    (numbers_above m (n + 1) rows (omega (arith, lt))
    (and_right (row.number == n) (are_numbered (n + 1) rows) e))

numbers_rise : (n : ℕ) (rows : List DutyRow) → are_numbered n rows ≡ true
    → rise (numbers_of rows) ≡ true
numbers_rise n [] e = refl
numbers_rise n (row ∷ rows) e =
    let same : row.number ≡ n = numbers_equal row.number n
    (and_left (row.number == n) (are_numbered (n + 1) rows) e) in
    let rest = and_right (row.number == n) (are_numbered (n + 1) rows) e in
    and_from (list_all (nat_lt row.number) (numbers_of rows)) (rise (numbers_of rows))
    (numbers_above row.number (n + 1) rows (omega (arith, same)) rest)
    (numbers_rise (n + 1) rows rest)

above_none : (t : Tables) (rows : List ChangeRow) → are_numbered 1 t.duty ≡ true
    → are_of_duties t rows ≡ true → list_all (nat_lt 0) (duties_of rows) ≡ true
above_none t [] e all = refl
above_none t (row ∷ rows) e all =
    let at = found_within 1 row.duty t.duty e
    (and_left (is_some (duty_found t row.duty)) (are_of_duties t rows) all) in
    let low = at.0 in
    let here : nat_lt 0 row.duty ≡ true = grind (arith, nat_tests) in
    and_from (nat_lt 0 row.duty) (list_all (nat_lt 0) (duties_of rows)) here
    (above_none t rows e (and_right (is_some (duty_found t row.duty)) (are_of_duties t rows) all))

turns_from : (t : Tables) (n : ℕ) (rows : List ChangeRow) → are_numbered 1 t.duty ≡ true
    → list_all (nat_lt n) (duties_of rows) ≡ true → rise (duties_of rows) ≡ true
    → are_next t rows ≡ true → are_of_duties t rows ≡ true
    → are_in_turn n (length t.duty) t.changes rows ≡ true
turns_from t n [] e above up next all = refl
turns_from t n (row ∷ rows) e above up next all =
    let at = found_within 1 row.duty t.duty e
    (and_left (is_some (duty_found t row.duty)) (are_of_duties t rows) all) in
    let over : nat_lt n row.duty ≡ true =
    and_left (nat_lt n row.duty) (list_all (nat_lt n) (duties_of rows)) above in
    let low : n < row.duty = grind (arith, nat_tests) in
    and_from (is_in_turn n (length t.duty) t.changes row)
    (are_in_turn row.duty (length t.duty) t.changes rows)
    (is_turn n (length t.duty) t.changes row low (omega (arith, at.1))
    (numbers_equal row.step (steps_found t row.duty + 1)
    (and_left (row.step == steps_found t row.duty + 1) (are_next t rows) next)))
    (turns_from t row.duty rows e
    (and_left (list_all (nat_lt row.duty) (duties_of rows)) (rise (duties_of rows)) up)
    (and_right (list_all (nat_lt row.duty) (duties_of rows)) (rise (duties_of rows)) up)
    (and_right (row.step == steps_found t row.duty + 1) (are_next t rows) next)
    (and_right (is_some (duty_found t row.duty)) (are_of_duties t rows) all))

next_turns : (t : Tables) (duties : List DutyRow) (groups : List (List ChangeRow))
    (rows : List ChangeRow) → t.duty ≡ duties → t.changes ≡ all_of groups → are_numbered 1 duties ≡ true
    → length groups ≡ length duties
    → AreNext t rows → are_in_turn 0 (length groups) (all_of groups) rows ≡ true
next_turns t duties groups rows same held fresh paired next =
    let e : are_numbered 1 t.duty ≡ true = ap (are_numbered 1) same ∙ fresh in
    let count : length groups ≡ length t.duty = paired ∙ ap length (sym same) in
    ap (λ (n : ℕ). are_in_turn 0 n (all_of groups) rows) count
    ∙ (ap (λ (all : List ChangeRow). are_in_turn 0 (length t.duty) all rows) (sym held)
    ∙ turns_from t 0 rows e (above_none t rows e next.2) (next.1 (numbers_rise 1 t.duty e)) next.0
    next.2)

pub taken : (c : Change) (t : Tables) (duties : List DutyRow) (groups : List (List ChangeRow))
    → are_numbered 1 duties ≡ true → length groups ≡ length duties → t.duty ≡ duties
    → t.changes ≡ all_of groups → Follows c t → can_take c duties groups ≡ true
taken (change.Froze release revision rows new
    changes) t duties groups fresh paired same held follows =
    let count : length duties ≡ length t.duty = ap length (sym same) in
    let as_many : (length changes == length new) ≡ true = let e : length changes ≡ length new =
    follows.2 in grind (arith, nat_tests) in
    ap (λ (n : ℕ). can_append n new changes) count
    ∙ and_from (are_numbered (length t.duty + 1) new)
    (are_first (length t.duty + 1) changes && (length changes == length new))
    follows.0
    (and_from (are_first (length t.duty + 1) changes)
    (length changes == length new) follows.1 as_many)
taken (change.Moved rows) t duties groups fresh paired same held follows = next_turns t duties
    groups rows same held fresh paired follows
taken (change.Withdrew release rows) t duties groups fresh paired same held follows = next_turns t
    duties groups rows same held fresh paired follows
taken (change.Opened row) t duties groups fresh paired same held follows = refl
taken (change.Loaded row rules forms) t duties groups fresh paired same held follows = refl
taken (change.Imported row packages
    references) t duties groups fresh paired same held follows = refl
taken (change.Attached row) t duties groups fresh paired same held follows = refl
taken (change.Chosen release document package_id
    rows) t duties groups fresh paired same held follows = refl
taken (change.Concluded row) t duties groups fresh paired same held follows = refl
taken (change.Adopted row) t duties groups fresh paired same held follows = refl

-- what new duties that are taken are
pub append_numbered : (count : ℕ) (duties : List DutyRow) (changes : List ChangeRow)
    → can_append count duties changes ≡ true → are_numbered (count + 1) duties ≡ true
append_numbered count duties changes e = and_left (are_numbered (count + 1) duties)
    (are_first (count + 1) changes && (length changes == length duties)) e

pub append_first : (count : ℕ) (duties : List DutyRow) (changes : List ChangeRow)
    → can_append count duties changes ≡ true → are_first (count + 1) changes ≡ true
append_first count duties changes e =
    and_left (are_first (count + 1) changes) (length changes == length duties)
    (and_right (are_numbered (count + 1) duties)
    (are_first (count + 1) changes && (length changes == length duties)) e)

pub append_paired : (count : ℕ) (duties : List DutyRow) (changes : List ChangeRow)
    → can_append count duties changes ≡ true → length changes ≡ length duties
append_paired count duties changes e =
    numbers_equal (length changes) (length duties)
    (and_right (are_first (count + 1) changes) (length changes == length duties)
    (and_right (are_numbered (count + 1) duties)
    (are_first (count + 1) changes && (length changes == length duties)) e))

-- room was made
pub had_room : {A E : Type 0} (r : Result A E) → IsOk r → is_ok r ≡ true
had_room (Ok a) o = refl
had_room (Err e) o = absurd (cc)
