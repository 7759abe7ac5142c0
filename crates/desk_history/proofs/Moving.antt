-- What commands that move duties leave, one duty or many.
use Rattle.std.proofs.Common.{◌≡◌, ◌≢◌, ℕ, ◌+◌, ◌<◌, ◌≤◌, Bool, true, false, cond, List, [], ◌∷◌}
use Rattle.std.proofs.Common.{◌++◌, length, Option, Some, None, sym, refl, ap, ◌∙◌, arith}
use Rattle.std.proofs.Common.{append_assoc, length-append, append-nil, add-one, inl, inr}
use Rattle.std.specs.Prelude.{if◌then◌else◌, find, filter, map, ◌||◌, ◌&&◌, nat_lt, nat_le, ◌==◌}
use Rattle.std.specs.Prelude.{is_some, unwrap_or, IsTrue, not}
use Rattle.std.specs.List.{flat_map, list_any, list_all, enumerate_from}
use Rattle.std.specs.Option.{option_map, option_map_or}
use Rattle.std.proofs.lemmas.List.Elements.{filter-append}
use Rattle.std.proofs.lemmas.List.Folds.{list_any-append, list_all-append}
use Rattle.std.proofs.lemmas.Bool.Decides.{nat_tests, eqb_tells}
use Rattle.std.proofs.lemmas.Bool.{and_from}
use Rattle.desk_base.specs.Day.{is_day}
use Rattle.desk_model.specs.Lists.{put, put_all, updated}
use Rattle.desk_model.specs.Texts.{is_note}
use Rattle.desk_model.specs.Readings.{Readings}
use Rattle.desk_model.specs.Keys.{is_duty, is_change_of, change_below}
use Rattle.desk_model.specs.declared.row.Owed.{Owed}
use Rattle.desk_model.specs.Raised.{raised, numbered}
use Rattle.desk_model.specs.States.{state_after}
use Rattle.desk_model.specs.declared.row.Move.{Move}
use Rattle.desk_model.specs.Moves.{move_if, is_known, with_move, duties, duty_row, duty_at, changes, is_over}
use Rattle.desk_model.specs.Moves.{change_rows, change_row, moves, place, place_after, all_changes}
use Rattle.desk_model.specs.Tables.{tables, with_duty_state, moved_by}
use Rattle.desk_model.specs.Answers.{is_recorded, unless, release_state_of, Moving, move_answer, moving}
use Rattle.desk_history.proofs.Recorded.{past, is_so}
use Rattle.desk_history.specs.FromTables.{duty_found, steps_found, release_state_found, moved_found}
use Rattle.desk_history.proofs.Rows.{find-map}
use Rattle.desk_history.proofs.Lookups.{state-found}
use Rattle.desk_history.proofs.Orders.{put_first}
use Rattle.desk_model.specs.declared.row.ChangeRow.{ChangeRow}
use Rattle.desk_model.specs.declared.row.DutyRow.{DutyRow}
use Rattle.desk_model.specs.declared.state.ReleaseState.{ReleaseState}
use Rattle.desk_model.specs.declared.state.ReleaseState.TheVariants as release
use Rattle.desk_model.specs.declared.state.DutyState.{DutyState}
use Rattle.desk_model.specs.declared.state.Word.{Word}
use Rattle.desk_model.specs.declared.refusal.Refusal.TheVariants as why
use Rattle.desk_model.specs.declared.command.Command.{Command}
use Rattle.desk_model.proofs.Lists.{put-past}
use Rattle.desk_base.proofs.Numbers.{same_number}
use Rattle.desk_base.proofs.Bools.{and_left, and_right}

abbrev pub in_range : ℕ → ℕ → ℕ → Bool
in_range n q k = nat_le n q && nat_lt q (n + k)

range_none : (n q : ℕ) → in_range n q 0 ≡ false
range_none n q = grind (arith, nat_tests)

pub range_here : (n q k : ℕ) → n ≡ q → in_range n q (k + 1) ≡ true
range_here n q k e = grind (arith, nat_tests)

range_next : (n q k : ℕ) → n ≢ q → in_range n q (k + 1) ≡ in_range (n + 1) q k
range_next n q k e = grind (arith, nat_tests)

range_over : (n q k : ℕ) → n ≡ q → in_range (n + 1) q k ≡ false
range_over n q k e = grind (arith, nat_tests)

pub range_one : (q k : ℕ) → in_range 1 q k ≡ (nat_le 1 q && nat_le q k)
range_one q k = grind (arith, nat_tests)

map-map : {A B C : Type 0} (f : B → C) (g : A → B) (o : Option A)
    → option_map f (option_map g o) ≡ option_map (λ x. f (g x)) o
map-map f g None = refl
map-map f g (Some x) = refl

-- what is found at a number
pub find_numbered : {A B : Type 0} (g : ℕ → B) (q : ℕ) (n : ℕ) (xs : List A)
    → option_map (λ (d : ℕ × A). g d.0) (find (λ (d : ℕ × A). d.0 == q) (enumerate_from n xs))
    ≡ (if in_range n q (length xs) then Some (g q) else None)
find_numbered g q n [] = rw (range_none n q) refl
find_numbered {A} g q n (x ∷ xs) =
    rw (← add-one (length xs))
    (elim (eqb_tells n q) [
      | inl w ↦ rw (w.0, range_here n q (length xs) w.1) (ap (λ k. Some (g k)) w.1)
      | inr w ↦ rw (w.0, range_next n q (length xs) w.1) (find_numbered g q (n + 1) xs)
    ])

-- the row of a duty
pub duty-found : (w : Readings) (h : List Command) (q : ℕ)
    → duty_found (tables w h) q ≡ option_map (λ d. duty_row (place w h d.0) d) (duty_at w h q)
duty-found w h q = find-map (is_duty q) (λ d. duty_row (place w h d.0) d) (numbered w h)

pub place-found : (w : Readings) (h : List Command) (q : ℕ)
    → option_map (λ row. row.state) (duty_found (tables w h) q)
    ≡ option_map (λ d. place w h d.0) (duty_at w h q)
place-found w h q = ap (option_map (λ row. row.state)) (duty-found w h q)
    ∙ map-map (λ row. row.state) (λ d. duty_row (place w h d.0) d) (duty_at w h q)

release_state_at : (w : Readings) (h : List Command) (o : Option (ℕ × Owed))
    → release_state_found (tables w h) (option_map (λ d. duty_row (place w h d.0) d) o)
    ≡ release_state_of h o
release_state_at w h None = refl
release_state_at w h (Some d) = ap (λ s. unwrap_or s release.IsOpen) (state-found w h d.1.release)

pub release_state-found : (w : Readings) (h : List Command) (q : ℕ)
    → release_state_found (tables w h) (duty_found (tables w h) q)
    ≡ release_state_of h (duty_at w h q)
release_state-found w h q = ap (release_state_found (tables w h)) (duty-found w h q)
    ∙ release_state_at w h (duty_at w h q)

-- a duty's rows of changes
pub length-change_rows : (q : ℕ) (ms : List Move) → length (change_rows q ms) ≡ length ms
length-change_rows q [] = refl
length-change_rows q (m ∷ ms) = omega (
  arith,
  length-append (change_rows q ms) (change_row q (length ms + 1) m ∷ []),
  length-change_rows q ms,
)

-- they are not rows of any other duty
filter-change_rows : (q n : ℕ) (ms : List Move)
    → filter (is_change_of q) (change_rows n ms) ≡ (if n == q then change_rows n ms else [])
filter-change_rows q n [] = grind (arith, nat_tests)
filter-change_rows q n (m ∷ ms) =
    filter-append (is_change_of q) (change_rows n ms) (change_row n (length ms + 1) m ∷ [])
    ∙ rw (filter-change_rows q n ms)
    (elim (n == q) as (λ b. (if b then change_rows n ms else [])
    ++ cond b (change_row n (length ms + 1) m ∷ []) []
    ≡ (if b then change_rows n ms ++ change_row n (length ms + 1) m ∷ [] else []))
    [ true ↦ refl | false ↦ refl ])

-- the changes of a duty are its rows in the table
pub changes-numbered : (w : Readings) (h : List Command) (q n : ℕ) (xs : List Owed)
    → filter (is_change_of q) (flat_map (λ (d : ℕ × Owed). changes w h d.0) (enumerate_from n xs))
    ≡ (if in_range n q (length xs) then changes w h q else [])
changes-numbered w h q n [] = rw (range_none n q) refl
changes-numbered w h q n (x ∷ xs) =
    filter-append (is_change_of q) (changes w h n)
    (flat_map (λ (d : ℕ × Owed). changes w h d.0) (enumerate_from (n + 1) xs))
    ∙ rw (
      changes-numbered w h q (n + 1) xs,
      filter-change_rows q n (moves w h n),
      ← add-one (length xs),
    )
    (elim (eqb_tells n q) [
      | inl e ↦ rw (e.0, range_here n q (length xs) e.1, range_over n q (length xs) e.1)
          (append-nil (change_rows n (moves w h n)) ∙ ap (λ k. changes w h k) e.1)
      | inr e ↦ rw (e.0, range_next n q (length xs) e.1) refl
    ])

-- where it is raised
pub changes-found : (w : Readings) (h : List Command) (n : ℕ)
    → in_range 1 n (length (raised w h)) ≡ true
    → filter (is_change_of n) (all_changes w h) ≡ changes w h n
changes-found w h n e = changes-numbered w h n 1 (raised w h) ∙ rw e refl

pub steps-numbered : (w : Readings) (h : List Command) (q n : ℕ) (xs : List Owed)
    → length (filter (is_change_of q)
    (flat_map (λ (d : ℕ × Owed). changes w h d.0) (enumerate_from n xs)))
    ≡ (if in_range n q (length xs) then length (moves w h q) else 0)
steps-numbered w h q n xs =
    ap length (changes-numbered w h q n xs)
    ∙ elim (in_range n q (length xs)) as
    (λ b. length (if b then changes w h q else []) ≡ (if b then length (moves w h q) else 0))
    [ true ↦ length-change_rows q (moves w h q) | false ↦ refl ]

-- the answer
abbrev looked : Option DutyState → ReleaseState → ℕ → Moving
looked place state steps = record { place = place; release = state; steps = steps }

some_where : {A : Type 0} (o : Option A) (b : Bool)
    → option_map {U = ℕ} (λ x. 0) o ≡ (if b then Some 0 else None) → is_some o ≡ b
some_where None true e = cc
some_where None false e = refl
some_where (Some x) true e = refl
some_where (Some x) false e = cc

pub known_at : (w : Readings) (h : List Command) (q : ℕ)
    → is_some (duty_at w h q) ≡ in_range 1 q (length (raised w h))
known_at w h q = some_where (duty_at w h q) (in_range 1 q (length (raised w h)))
    (find_numbered (λ k. 0) q 1 (raised w h))

steps_matter : {A : Type 0} (word : Word) (day text : List ℕ) (until : Option (List ℕ))
    (s : ReleaseState) (n : ℕ) (f : A → DutyState) (o : Option A) (b : Bool) → is_some o ≡ b
    → move_answer word day text until (looked (option_map f o) s (if b then n else 0))
    ≡ move_answer word day text until (looked (option_map f o) s n)
steps_matter word day text until s n f None b e = refl
steps_matter word day text until s n f (Some x) true e = refl
steps_matter word day text until s n f (Some x) false e = cc

pub move-answer : (w : Readings) (h : List Command) (word : Word) (q : ℕ) (day text : List ℕ)
    (until : Option (List ℕ)) → moved_found (tables w h) word q day text until
    ≡ move_answer word day text until (moving w h q)
move-answer w h word q day text until =
    ap (λ s. move_answer word day text until
    (looked (option_map (λ (row : DutyRow). row.state) (duty_found (tables w h) q)) s
    (steps_found (tables w h) q))) (release_state-found w h q)
    ∙ (ap (λ o. move_answer word day text until
    (looked o (release_state_of h (duty_at w h q)) (steps_found (tables w h) q)))
    (place-found w h q)
    ∙ (ap (λ n. move_answer word day text until
    (looked (option_map (λ (d : ℕ × Owed). place w h d.0) (duty_at w h q))
    (release_state_of h (duty_at w h q)) n)) (steps-numbered w h q 1 (raised w h))
    ∙ steps_matter word day text until (release_state_of h (duty_at w h q)) (length (moves w h q))
    (λ d. place w h d.0) (duty_at w h q) (in_range 1 q (length (raised w h))) (known_at w h q)))

-- A command that moves duties

-- the row of a move, if there is one
abbrev pub new_row : ℕ → List Move → Option Move → List ChangeRow
new_row q ms None = []
new_row q ms (Some m) = change_row q (length ms + 1) m ∷ []

-- the rows of the moves of some duties, after these earlier moves
abbrev pub new_rows : (ℕ → List Move) → (ℕ → Option Move) → List (ℕ × Owed) → List ChangeRow
new_rows before move ds = flat_map (λ d. new_row d.0 (before d.0) (move d.0)) ds

abbrev pub rows_of : (ℕ → List Move) → List (ℕ × Owed) → List DutyRow
rows_of before ds = map (λ d. duty_row (place_after (before d.0)) d) ds

abbrev pub changes_of : (ℕ → List Move) → List (ℕ × Owed) → List ChangeRow
changes_of before ds = flat_map (λ d. change_rows d.0 (before d.0)) ds

abbrev pub after : (ℕ → List Move) → (ℕ → Option Move) → ℕ → List Move
after before move q = with_move (move q) (before q)

-- only changes of later duties
abbrev beyond : ℕ → List ChangeRow → Bool
beyond n rows = list_all (λ row. nat_lt n row.duty) rows

beyond_new : (k n : ℕ) (ms : List Move) (o : Option Move) (rows : List ChangeRow) → k < n
    → beyond k rows ≡ true → beyond k (new_row n ms o ++ rows) ≡ true
beyond_new k n ms None rows lt all = all
beyond_new k n ms (Some m) rows lt all = let here : nat_lt k n ≡ true = grind (arith, nat_tests) in
    and_from (nat_lt k n) (beyond k rows) here all

beyond_rows : (before : ℕ → List Move) (move : ℕ → Option Move) (k n : ℕ) (xs : List Owed) → k < n
    → beyond k (new_rows before move (enumerate_from n xs)) ≡ true
beyond_rows before move k n [] lt = refl
beyond_rows before move k n (x ∷ xs) lt = beyond_new k n (before n) (move n)
    (new_rows before move (enumerate_from (n + 1) xs)) lt
    (beyond_rows before move k (n + 1) xs (omega arith))

differ : (n q : ℕ) → nat_lt n q ≡ true → (n == q) ≡ false
differ n q e = grind (arith, nat_tests)

-- duties

moved_past : (row : DutyRow) (changes : List ChangeRow) (rows : List DutyRow)
    → beyond row.number changes ≡ true → moved_by changes (row ∷ rows) ≡ row ∷ moved_by changes rows
moved_past row [] rows all = refl
moved_past row (c ∷ cs) rows all =
    ap (updated (is_duty c.duty) (with_duty_state (state_after c.word)))
    (moved_past row cs rows (and_right (nat_lt row.number c.duty) (beyond row.number cs) all))
    ∙ rw (differ row.number c.duty (and_left (nat_lt row.number c.duty) (beyond row.number cs) all))
    refl

none_updated : (state : DutyState) (before : ℕ → List Move) (q n : ℕ) (xs : List Owed) → q < n
    → updated (is_duty q) (with_duty_state state) (rows_of before (enumerate_from n xs))
    ≡ rows_of before (enumerate_from n xs)
none_updated state before q n [] lt = refl
none_updated state before q n (x ∷ xs) lt =
    let no : (n == q) ≡ false = grind (arith, nat_tests) in
    rw no (ap (λ rows. duty_row (place_after (before n)) (n, x) ∷ rows)
    (none_updated state before q (n + 1) xs (omega arith)))

moved_here : (ms : List Move) (o : Option Move) (n : ℕ) (x : Owed) (changes : List ChangeRow)
    (rows : List DutyRow) (later : List DutyRow) → beyond n changes ≡ true
    → moved_by changes rows ≡ later
    → ((state : DutyState) → updated (is_duty n) (with_duty_state state) later ≡ later)
    → moved_by (new_row n ms o ++ changes) (duty_row (place_after ms) (n, x) ∷ rows)
    ≡ duty_row (place_after (with_move o ms)) (n, x) ∷ later
moved_here ms None n x changes rows later all rest none = moved_past
    (duty_row (place_after ms) (n, x)) changes rows all
    ∙ ap (λ ys. duty_row (place_after ms) (n, x) ∷ ys) rest
moved_here ms (Some m) n x changes rows later all rest none =
    ap (updated (is_duty n) (with_duty_state (state_after m.word)))
    (moved_past (duty_row (place_after ms) (n, x)) changes rows all
    ∙ ap (λ ys. duty_row (place_after ms) (n, x) ∷ ys) rest)
    ∙ rw (same_number n) (ap (λ ys. duty_row (state_after m.word) (n, x) ∷ ys)
    (none (state_after m.word)))

pub moved-duties : (before : ℕ → List Move) (move : ℕ → Option Move) (n : ℕ) (xs : List Owed)
    → moved_by (new_rows before move (enumerate_from n xs)) (rows_of before (enumerate_from n xs))
    ≡ rows_of (after before move) (enumerate_from n xs)
moved-duties before move n [] = refl
moved-duties before move n (x ∷ xs) =
    moved_here (before n) (move n) n x (new_rows before move (enumerate_from (n + 1) xs))
    (rows_of before (enumerate_from (n + 1) xs))
    (rows_of (after before move) (enumerate_from (n + 1) xs))
    (beyond_rows before move n (n + 1) xs (omega arith)) (moved-duties before move (n + 1) xs)
    (λ state. none_updated state (after before move) n (n + 1) xs (omega arith))

-- changes

-- a row that comes after each change of a duty n, or before each
abbrev pub comes_before : ChangeRow → ℕ → ℕ → Bool
comes_before row n step = nat_lt row.duty n || ((row.duty == n) && nat_lt row.step step)

none_below : (row : ChangeRow) (n : ℕ) (ms : List Move)
    → ((step : ℕ) → step ≤ length ms → comes_before row n step ≡ false)
    → list_any (change_below row) (change_rows n ms) ≡ false
none_below row n [] never = refl
none_below row n (m ∷ ms) never =
    let rest = none_below row n ms (λ step le. never step (omega arith)) in
    let here : comes_before row n (length ms + 1) ≡ false = never (length ms + 1) (omega arith) in
    list_any-append (change_below row) (change_rows n ms) (change_row n (length ms + 1) m ∷ [])
    ∙ rw (rest, here) refl

all_below : (row : ChangeRow) (n : ℕ) (ms : List Move) → row.duty < n
    → list_all (change_below row) (change_rows n ms) ≡ true
all_below row n [] lt = refl
all_below row n (m ∷ ms) lt =
    let here : comes_before row n (length ms + 1) ≡ true = grind (arith, nat_tests) in
    list_all-append (change_below row) (change_rows n ms) (change_row n (length ms + 1) m ∷ [])
    ∙ rw (all_below row n ms lt, here) refl

all_below-numbered : (moved : ℕ → List Move) (row : ChangeRow) (n : ℕ) (xs : List Owed)
    → row.duty < n → list_all (change_below row) (changes_of moved (enumerate_from n xs)) ≡ true
all_below-numbered moved row n [] lt = refl
all_below-numbered moved row n (x ∷ xs) lt =
    list_all-append (change_below row) (change_rows n (moved n))
    (changes_of moved (enumerate_from (n + 1) xs))
    ∙ rw (all_below row n (moved n) lt, all_below-numbered moved row (n + 1) xs (omega arith)) refl

later_change : (q n a step : ℕ) → n < q → (nat_lt q n || ((q == n) && nat_lt a step)) ≡ false
later_change q n a step lt = grind (arith, nat_tests)

next_change : (n a step : ℕ) → step ≤ a → (nat_lt n n || ((n == n) && nat_lt (a + 1) step)) ≡ false
next_change n a step le = grind (arith, nat_tests)

pub less_by : (n q : ℕ) → nat_lt n q ≡ true → n < q
less_by n q e = grind (arith, nat_tests)

put_past : (n : ℕ) (ms : List Move) (rows zs : List ChangeRow) → beyond n rows ≡ true
    → put_all change_below rows (change_rows n ms ++ zs) ≡ change_rows n ms
    ++ put_all change_below rows zs
put_past n ms [] zs all = refl
put_past n ms (row ∷ rows) zs all =
    let lt : n < row.duty = less_by n row.duty (and_left (nat_lt n row.duty) (beyond n rows) all) in
    ap (put change_below row) (put_past n ms rows zs
    (and_right (nat_lt n row.duty) (beyond n rows) all))
    ∙ put-past change_below row (change_rows n ms) (put_all change_below rows zs)
    (none_below row n ms (λ step le. later_change row.duty n row.step step lt))

put_here : (ms : List Move) (o : Option Move) (n : ℕ) (rows zs later : List ChangeRow)
    → beyond n rows ≡ true → put_all change_below rows zs ≡ later
    → ((row : ChangeRow) → row.duty ≡ n → list_all (change_below row) later ≡ true)
    → put_all change_below (new_row n ms o ++ rows) (change_rows n ms ++ zs)
    ≡ change_rows n (with_move o ms) ++ later
put_here ms None n rows zs later all rest below = put_past n ms rows zs all
    ∙ ap (λ ys. change_rows n ms ++ ys) rest
put_here ms (Some m) n rows zs later all rest below =
    let row = change_row n (length ms + 1) m in
    ap (put change_below row) (put_past n ms rows zs all ∙ ap (λ ys. change_rows n ms ++ ys) rest)
    ∙ (put-past change_below row (change_rows n ms) later
    (none_below row n ms (λ step le. next_change n (length ms) step le))
    ∙ (ap (λ ys. change_rows n ms ++ ys) (put_first change_below row later (below row refl))
    ∙ sym (append_assoc (change_rows n ms) (row ∷ []) later)))

pub moved-changes : (before : ℕ → List Move) (move : ℕ → Option Move) (n : ℕ) (xs : List Owed)
    → put_all change_below (new_rows before move (enumerate_from n xs))
    (changes_of before (enumerate_from n xs)) ≡ changes_of (after before move) (enumerate_from n xs)
moved-changes before move n [] = refl
moved-changes before move n (x ∷ xs) =
    put_here (before n) (move n) n (new_rows before move (enumerate_from (n + 1) xs))
    (changes_of before (enumerate_from (n + 1) xs))
    (changes_of (after before move) (enumerate_from (n + 1) xs))
    (beyond_rows before move n (n + 1) xs (omega arith)) (moved-changes before move (n + 1) xs)
    (λ row e. all_below-numbered (after before move) row (n + 1) xs (omega (arith, e)))

-- One duty, by its number

one_row : (before : ℕ → List Move) (move : ℕ → Option Move) (q : ℕ)
    → ((k : ℕ) → (k == q) ≡ false → move k ≡ None) → (n : ℕ) (xs : List Owed)
    → new_rows before move (enumerate_from n xs)
    ≡ (if in_range n q (length xs) then new_row q (before q) (move q) else [])
one_row before move q others n [] = rw (range_none n q) refl
one_row before move q others n (x ∷ xs) =
    ap (λ rows. new_row n (before n) (move n) ++ rows) (one_row before move q others (n + 1) xs)
    ∙ rw (← add-one (length xs))
    (elim (eqb_tells n q) [
      | inl e ↦ rw (range_here n q (length xs) e.1, range_over n q (length xs) e.1)
          (append-nil (new_row n (before n) (move n)) ∙ ap (λ k. new_row k (before k) (move k)) e.1)
      | inr e ↦ rw (range_next n q (length xs) e.1, others n e.0) refl
    ])

-- the move of the duty that a command names
abbrev pub named : Readings → List Command → ℕ → Move → ℕ → Option Move
named w h q m k = move_if ((q == k) && is_known w h k) m

unnamed : (w : Readings) (h : List Command) (q : ℕ) (m : Move) (k : ℕ) → (k == q) ≡ false
    → named w h q m k ≡ None
unnamed w h q m k e = let no : (q == k) ≡ false = grind (arith, nat_tests) in rw no refl

known_here : (q l : ℕ) → in_range 1 q l ≡ true → ((q == q) && nat_le q l) ≡ true
known_here q l e = grind (arith, nat_tests)

named_rows : (w : Readings) (h : List Command) (q : ℕ) (m : Move)
    → in_range 1 q (length (raised w h)) ≡ true
    → new_rows (moves w h) (named w h q m) (numbered w h)
    ≡ change_row q (steps_found (tables w h) q + 1) m ∷ []
named_rows w h q m known =
    one_row (moves w h) (named w h q m) q (unnamed w h q m) 1 (raised w h)
    ∙ rw (
      known,
      known_here q (length (raised w h)) known,
      steps-numbered w h q 1 (raised w h),
      known,
    ) refl

pub named-duties : (w : Readings) (h : List Command) (q : ℕ) (m : Move)
    → in_range 1 q (length (raised w h)) ≡ true
    → rows_of (after (moves w h) (named w h q m)) (numbered w h)
    ≡ moved_by (change_row q (steps_found (tables w h) q + 1) m ∷ []) (duties w h)
named-duties w h q m known = sym (moved-duties (moves w h) (named w h q m) 1 (raised w h))
    ∙ ap (λ rows. moved_by rows (duties w h)) (named_rows w h q m known)

pub named-changes : (w : Readings) (h : List Command) (q : ℕ) (m : Move)
    → in_range 1 q (length (raised w h)) ≡ true
    → changes_of (after (moves w h) (named w h q m)) (numbered w h)
    ≡ put_all change_below (change_row q (steps_found (tables w h) q + 1) m ∷ []) (all_changes w h)
named-changes w h q m known = sym (moved-changes (moves w h) (named w h q m) 1 (raised w h))
    ∙ ap (λ rows. put_all change_below rows (all_changes w h)) (named_rows w h q m known)

-- a duty that is not known is not moved
known_by : (word : Word) (day text : List ℕ) (until : Option (List ℕ)) (found : Moving)
    → IsTrue (is_recorded (move_answer word day text until found)) → is_some found.place ≡ true
known_by word day text until found e =
    let one = past (unless (is_day day && option_map_or is_day until true) why.BadDay) _ e in
    let two = past (unless (is_note text) why.BadText) _ one.1 in
    let three = past (unless (not (is_over day until)) why.BadEnd) _ two.1 in
    is_so (is_some found.place) why.UnknownDuty
    (past (unless (is_some found.place) why.UnknownDuty) _ three.1).0

placed : (w : Readings) (h : List Command) (o : Option (ℕ × Owed))
    → is_some (option_map (λ (d : ℕ × Owed). place w h d.0) o) ≡ is_some o
placed w h None = refl
placed w h (Some d) = refl

pub recorded_known : (w : Readings) (h : List Command) (word : Word) (q : ℕ) (day text : List ℕ)
    (until : Option (List ℕ)) → IsTrue
    (is_recorded (move_answer word day text until (moving w h q)))
    → in_range 1 q (length (raised w h)) ≡ true
recorded_known w h word q day text until e =
    sym (known_at w h q) ∙ (sym (placed w h (duty_at w h q))
    ∙ known_by word day text until (moving w h q) e)
