-- The rows of the changes are the moves of the duties, and those of the waivers their last days.
use Rattle.std.proofs.Common.{◌≡◌, ℕ, ◌+◌, ◌<◌, ◌≤◌, Bool, true, false, cond, List, [], ◌∷◌, ◌++◌}
use Rattle.std.proofs.Common.{length, map, Option, Some, None, refl, sym, ap, ◌∙◌, subst, arith}
use Rattle.std.proofs.Common.{length-append, append_assoc, add-one, inl, inr}
use Rattle.std.specs.Prelude.{pos, is_some, nat_lt, nat_le, ◌&&◌, ◌==◌, filter, find, unwrap_or, if◌then◌else◌}
use Rattle.std.specs.List.{list_all}
use Rattle.std.specs.Option.{option_map, option_map_or, option_or}
use Rattle.std.specs.Ordering.{int_eq}
use Rattle.std.proofs.lemmas.Bool.Decides.{nat_tests}
use Rattle.std.proofs.lemmas.List.{map-append}
use Rattle.std.proofs.lemmas.List.Folds.{find-append, list_all-append}
use Rattle.std.proofs.lemmas.Bool.{and_from}
use Rattle.std.proofs.lemmas.Simd.{map-map}
use Rattle.std.proofs.lemmas.List.Elements.{filter_agree}
use Rattle.desk_base.proofs.Bools.{and_left, and_right}
use Rattle.desk_base.proofs.Texts.{same_text}
use Rattle.desk_model.specs.Lists.{IsIn}
use Rattle.desk_model.specs.Keys as key
use Rattle.desk_model.specs.Names.{duty_state_name, word_name, word_named}
use Rattle.desk_model.specs.Readings.{Readings}
use Rattle.desk_model.specs.Raised.{numbered, raised}
use Rattle.desk_model.specs.States.{state_after}
use Rattle.desk_model.specs.Moves.{all_changes, change_row, change_rows, changes, duties, duty_row, is_waiver}
use Rattle.desk_model.specs.Moves.{moves, place, place_after}
use Rattle.desk_model.specs.Answers.{IsHistory}
use Rattle.desk_model.specs.Tables.{tables}
use Rattle.desk_model.specs.declared.row.ChangeRow.{ChangeRow}
use Rattle.desk_model.specs.declared.row.Move.{Move}
use Rattle.desk_model.specs.declared.row.Owed.{Owed}
use Rattle.desk_model.specs.declared.state.Word.{Word}
use Rattle.desk_model.specs.declared.state.Word.TheVariants as word
use Rattle.desk_model.specs.declared.command.Command.{Command}
use Rattle.desk_model.proofs.Lists.{all_pass}
use Rattle.desk_history.proofs.Members.{from_flat_map, from_map, in_cases}
use Rattle.desk_history.proofs.Moving.{changes-found}
use Rattle.desk_history.proofs.Distinct.{from_filter}
use Rattle.desk_history.proofs.Rows.{filter-map, find-map}
use Rattle.desk_history.proofs.Moving.{length-change_rows}
use Rattle.desk_history.proofs.Told.{is_moved}
use Rattle.desk_snapshot.specs.Changes.{are_moves, AreChangesOf, go_on, goes_on, is_formed}
use Rattle.desk_snapshot.specs.Changes.{is_raising, is_waived, is_waiver_of, is_within, last_change}
use Rattle.desk_snapshot.specs.Changes.{last_day_at, leaves, may_move}
use Rattle.desk_snapshot.specs.Conditions.{AreChanges}
use Rattle.desk_snapshot.specs.Rows.{AreFrom, is_change_at, is_change_of, is_waiver_at}
use Rattle.desk_snapshot.specs.Tables.{change_stored, duty_stored, snapshot_of, waiver_stored}
use Rattle.desk_snapshot.specs.declared.rows.StoredChange.{StoredChange}
use Rattle.desk_snapshot.specs.declared.rows.StoredDuty.{StoredDuty}
use Rattle.desk_snapshot.specs.declared.rows.StoredWaiver.{StoredWaiver}
use Rattle.desk_snapshot.specs.declared.snapshot.Snapshot.{Snapshot}
use Rattle.desk_history_laws.proofs.Lists.{each_in, find-filter, find_same, in_numbers, pos_eq}
use Rattle.desk_history_laws.proofs.Numbered.{rows_push}
use Rattle.desk_history_laws.proofs.Duties.{length-duties, row_of}
use Rattle.desk_history_laws.proofs.Runs.{ends_well, IsRun, runs, started}

abbrev stored_moves : ℕ → List Move → List StoredChange
stored_moves q ms = map change_stored (change_rows q ms)

-- one more move is one more row
stored_push : (q : ℕ) (m : Move) (ms : List Move)
    → stored_moves q (m ∷ ms) ≡ stored_moves q ms ++ change_stored (change_row q (length ms + 1) m)
    ∷ []
stored_push q m ms = map-append change_stored (change_rows q ms)
    (change_row q (length ms + 1) m ∷ [])

-- ---- the changes of a duty

of_duty : (w : Readings) (h : List Command) (d : ℕ × Owed) → IsIn d (numbered w h)
    → filter (key.is_change_of d.0) (all_changes w h) ≡ changes w h d.0
of_duty w h d m = let at = in_numbers 1 (raised w h) d m in
    changes-found w h d.0 (bounds d.0 (length (raised w h)) at.0 at.1)
  where
    bounds : (q n : ℕ) → 1 ≤ q → q < 1 + n → (nat_le 1 q && nat_lt q (1 + n)) ≡ true
    bounds q n le lt = grind (arith, nat_tests)

stored_of : (w : Readings) (h : List Command) (d : ℕ × Owed) → IsIn d (numbered w h)
    → filter (is_change_of (pos d.0)) (map change_stored (all_changes w h))
    ≡ stored_moves d.0 (moves w h d.0)
stored_of w h d m =
    filter-map (is_change_of (pos d.0)) change_stored (all_changes w h)
    ∙ (ap (map change_stored) (filter_agree (λ (row : ChangeRow). int_eq (pos row.duty) (pos d.0))
    (key.is_change_of d.0) (λ row. pos_eq row.duty d.0) (all_changes w h))
    ∙ ap (map change_stored) (of_duty w h d m))

-- ---- what is found at a step

abbrev at_step : (ChangeRow → Bool) → ℕ → ChangeRow → Bool
at_step test step row = test row && (row.step == step)

before_all : (test : ChangeRow → Bool) (q k : ℕ) (ms : List Move) → length ms < k
    → find (at_step test k) (change_rows q ms) ≡ None
before_all test q k [] lt = refl
before_all test q k (m ∷ ms) lt =
    find-append (at_step test k) (change_rows q ms) (change_row q (length ms + 1) m ∷ [])
    ∙ rw (before_all test q k ms (omega arith))
    (apart (test (change_row q (length ms + 1) m)) (length ms + 1) (change_row q (length ms + 1) m)
    (omega arith))
  where
    apart : (b : Bool) (n : ℕ) (row : ChangeRow) → n < k
        → cond (b && (n == k)) (Some row) None ≡ None
    apart true n row lt = let differ : (n == k) ≡ false = grind (arith, nat_tests) in rw differ refl
    apart false n row lt = refl

found_or : (o : Option ChangeRow) (b : Bool) (row : ChangeRow) → b ≡ false
    → option_or o (cond b (Some row) None) ≡ o
found_or None b row e = rw e refl
found_or (Some x) b row e = refl

not_at : (b : Bool) (n k : ℕ) → k < n → (b && (n == k)) ≡ false
not_at true n k lt = grind (arith, nat_tests)
not_at false n k lt = refl

found_at : (test : ChangeRow → Bool) (q : ℕ) (later : List Move) (m : Move) (ms : List Move)
    → find (at_step test (length ms + 1)) (change_rows q (later ++ m ∷ ms))
    ≡ (if test (change_row q (length ms + 1) m) then Some (change_row q (length ms + 1) m)
    else None)
found_at test q [] m ms =
    let row = change_row q (length ms + 1) m in
    find-append (at_step test (length ms + 1)) (change_rows q ms) (row ∷ [])
    ∙ rw (before_all test q (length ms + 1) ms (omega arith)) (here (test row) (length ms + 1) row)
  where
    here : (b : Bool) (n : ℕ) (row : ChangeRow)
        → cond (b && (n == n)) (Some row) None ≡ (if b then Some row else None)
    here true n row = let same : (n == n) ≡ true = grind (arith, nat_tests) in rw same refl
    here false n row = refl
found_at test q (l ∷ later) m ms =
    let all = later ++ m ∷ ms in
    let row = change_row q (length all + 1) l in
    find-append (at_step test (length ms + 1)) (change_rows q all) (row ∷ [])
    ∙ (found_or (find (at_step test (length ms + 1)) (change_rows q all))
    (at_step test (length ms + 1) row) row
    (not_at (test row) (length all + 1) (length ms + 1)
    (omega (arith, length-append later (m ∷ ms), add-one (length ms))))
    ∙ found_at test q later m ms)

-- the same in the table of all changes
found_in_all : (w : Readings) (h : List Command) (d : ℕ × Owed) → IsIn d (numbered w h)
    → (test : ChangeRow → Bool) (later : List Move) (m : Move) (ms : List Move)
    → moves w h d.0 ≡ later ++ m ∷ ms
    → find (λ (row : ChangeRow). test row && ((row.duty == d.0) && (row.step == (length ms + 1))))
    (all_changes w h) ≡ (if test (change_row d.0 (length ms + 1) m)
    then Some (change_row d.0 (length ms + 1) m) else None)
found_in_all w h d in_table test later m ms e =
    let k = length ms + 1 in
    find_same (λ (row : ChangeRow). test row && ((row.duty == d.0) && (row.step == k)))
    (λ (row : ChangeRow). key.is_change_of d.0 row && at_step test k row)
    (λ row. turned (test row) (row.duty == d.0) (row.step == k)) (all_changes w h)
    ∙ (sym (find-filter (at_step test k) (key.is_change_of d.0) (all_changes w h))
    ∙ (ap (find (at_step test k)) (of_duty w h d in_table ∙ ap (change_rows d.0) e)
    ∙ found_at test d.0 later m ms))
  where
    turned : (a b c : Bool) → (a && (b && c)) ≡ (b && (a && c))
    turned true b c = refl
    turned false true c = refl
    turned false false c = refl

-- ---- the last day of a change

last_found : (o : Option (List ℕ)) (row : ChangeRow) → row.last_day ≡ o
    → option_map (λ (waiver : StoredWaiver). waiver.last_day)
    (option_map waiver_stored (if is_some o then Some row else None)) ≡ o
last_found None row e = refl
last_found (Some last) row e = rw e refl

last_days : (w : Readings) (h : List Command) (d : ℕ × Owed) → IsIn d (numbered w h)
    → (later : List Move) (m : Move) (ms : List Move) → moves w h d.0 ≡ later ++ m ∷ ms
    → last_day_at (snapshot_of (tables w h)) (change_stored (change_row d.0 (length ms + 1) m))
    ≡ m.last_day
last_days w h d in_table later m ms e =
    let k = length ms + 1 in
    let at = is_waiver_at (pos d.0) (pos k) in
    let rows = filter is_waiver (all_changes w h) in
    ap (option_map (λ (waiver : StoredWaiver). waiver.last_day))
    (find-map at waiver_stored rows
    ∙ ap (option_map waiver_stored)
    (find_same (λ (row : ChangeRow). at (waiver_stored row))
    (λ (row : ChangeRow). (row.duty == d.0) && (row.step == k))
    (λ row. rw (pos_eq row.duty d.0, pos_eq row.step k) refl) rows
    ∙ (find-filter (λ (row : ChangeRow). (row.duty == d.0) && (row.step == k)) is_waiver
    (all_changes w h)
    ∙ found_in_all w h d in_table is_waiver later m ms e)))
    ∙ last_found m.last_day (change_row d.0 k m) refl

-- ---- the rows of a duty's moves

steps : (q : ℕ) (ms : List Move)
    → AreFrom 1 (map (λ (row : StoredChange). row.step) (stored_moves q ms))
steps q ms = rw (map-map (λ (row : StoredChange). row.step) change_stored (change_rows q ms))
    (rows ms)
  where
    rows : (ms : List Move) → AreFrom 1 (map (λ (row : ChangeRow). pos row.step) (change_rows q ms))
    rows [] = tt
    rows (m ∷ ms) = rows_push (λ (row : ChangeRow). pos row.step) (change_rows q ms)
        (change_row q (length ms + 1) m) (rows ms)
        (ap (λ n. pos (n + 1)) (sym (length-change_rows q ms)))

formed : (q : ℕ) (ms : List Move) → IsRun ms → list_all is_formed (stored_moves q ms) ≡ true
formed q [] run = refl
formed q (m ∷ ms) run =
    ap (list_all is_formed) (stored_push q m ms)
    ∙ (list_all-append is_formed (stored_moves q ms)
    (change_stored (change_row q (length ms + 1) m) ∷ [])
    ∙ rw (formed q ms run.2, run.1.0) refl)

named_word : (w : Word) → word_named (word_name w) ≡ Some w
named_word word.Raised = refl
named_word word.Met = refl
named_word word.Waived = refl
named_word word.Reopened = refl
named_word word.Withdrawn = refl
named_word word.Ended = refl

last_push : (row next : StoredChange) (rows : List StoredChange)
    → last_change row (rows ++ next ∷ []) ≡ next
last_push row next [] = refl
last_push row next (r ∷ rows) = last_push r next rows

go_on_push : (s : Snapshot) (row next : StoredChange) (rows : List StoredChange)
    → go_on s row rows ≡ true → goes_on s (last_change row rows) next ≡ true
    → go_on s row (rows ++ next ∷ []) ≡ true
go_on_push s row next [] e f = rw f refl
go_on_push s row next (r ∷ rows) e f =
    and_from (goes_on s row r) (go_on s r (rows ++ next ∷ []))
    (and_left (goes_on s row r) (go_on s r rows) e)
    (go_on_push s r next rows (and_right (goes_on s row r) (go_on s r rows) e) f)

-- rows that start with a raising and follow from each other
abbrev AreGoing : Snapshot → List StoredChange → Type 0
AreGoing s [] = ⊥
AreGoing s (row ∷ rows) = (is_raising row ≡ true) × (go_on s row rows ≡ true)

abbrev ends_at : StoredChange → List StoredChange → Type 0
ends_at last [] = ⊥
ends_at last (row ∷ rows) = last_change row rows ≡ last

going_push : (s : Snapshot) (last next : StoredChange) (rows : List StoredChange) → AreGoing s rows
    → ends_at last rows → goes_on s last next ≡ true
    → AreGoing s (rows ++ next ∷ []) × ends_at next (rows ++ next ∷ [])
going_push s last next [] going ends e = absurd going
going_push s last next (row ∷ rows) going ends e = (
  (
    going.0,
    go_on_push s row next rows going.1 (ap (λ (r : StoredChange). goes_on s r next) ends ∙ e),
  ),
  last_push row next rows,
)

goes_by : (s : Snapshot) (q : ℕ) (n m : Move) (k : ℕ)
    → last_day_at s (change_stored (change_row q k n)) ≡ n.last_day
    → may_move (state_after n.word) n.last_day m.day m.word ≡ true
    → goes_on s (change_stored (change_row q k n)) (change_stored (change_row q (k + 1) m)) ≡ true
goes_by s q n m k last may = rw (named_word n.word, named_word m.word, last) may

raised_first : (q : ℕ) (m : Move) → m.word ≡ word.Raised
    → is_raising (change_stored (change_row q 1 m)) ≡ true
raised_first q m e = rw e refl

going : (w : Readings) (h : List Command) (d : ℕ × Owed) → IsIn d (numbered w h)
    → (later : List Move) (m : Move) (ms : List Move) → moves w h d.0 ≡ later ++ m ∷ ms
    → IsRun (m ∷ ms)
    → AreGoing (snapshot_of (tables w h)) (stored_moves d.0 (m ∷ ms))
    × ends_at (change_stored (change_row d.0 (length ms + 1) m)) (stored_moves d.0 (m ∷ ms))
going w h d in_table later m [] e run = ((raised_first d.0 m run.0, refl), refl)
going w h d in_table later m (n ∷ ms) e run =
    let s = snapshot_of (tables w h) in
    let split : moves w h d.0 ≡ (later ++ m ∷ []) ++ n ∷ ms = e
    ∙ sym (append_assoc later (m ∷ []) (n ∷ ms)) in
    let rest = going w h d in_table (later ++ m ∷ []) n ms split run.2 in
    let last = change_stored (change_row d.0 (length ms + 1) n) in
    let next = change_stored (change_row d.0 (length (n ∷ ms) + 1) m) in
    let on : goes_on s last next ≡ true =
    ap (λ (k : ℕ). goes_on s last (change_stored (change_row d.0 (k + 1) m)))
    (sym (add-one (length ms)))
    ∙ goes_by s d.0 n m (length ms + 1) (last_days w h d in_table (later ++ m ∷ []) n ms split)
    run.0 in
    let all = going_push s last next (stored_moves d.0 (n ∷ ms)) rest.0 rest.1 on in
    subst (λ (rows : List StoredChange). AreGoing s rows × ends_at next rows)
    (sym (stored_push d.0 m (n ∷ ms))) all

leaves_by : (w : Word) (row : StoredChange) → row.word ≡ word_name w
    → leaves (duty_state_name (state_after w)) row ≡ true
leaves_by w row e = rw (e, named_word w) (same_text (duty_state_name (state_after w)))

moved_so : (s : Snapshot) (state : List ℕ) (last : StoredChange) (rows : List StoredChange)
    → AreGoing s rows → ends_at last rows → leaves state last ≡ true → are_moves s state rows ≡ true
moved_so s state last [] going ends e = absurd going
moved_so s state last (row ∷ rows) going ends e =
    and_from (is_raising row) (go_on s row rows && leaves state (last_change row rows)) going.0
    (and_from (go_on s row rows) (leaves state (last_change row rows)) going.1
    (ap (leaves state) ends ∙ e))

are_moved : (w : Readings) (h : List Command) (d : ℕ × Owed) (ms : List Move)
    → IsIn d (numbered w h) → moves w h d.0 ≡ ms → IsRun ms → is_moved ms ≡ true
    → are_moves (snapshot_of (tables w h)) (duty_state_name (place_after ms)) (stored_moves d.0 ms)
    ≡ true
are_moved w h d [] in_table e run moved = cc
are_moved w h d (m ∷ ms) in_table e run moved =
    let all = going w h d in_table [] m ms e run in
    moved_so (snapshot_of (tables w h)) (duty_state_name (state_after m.word))
    (change_stored (change_row d.0 (length ms + 1) m)) (stored_moves d.0 (m ∷ ms)) all.0 all.1
    (leaves_by m.word (change_stored (change_row d.0 (length ms + 1) m)) refl)

of_each : (w : Readings) (h : List Command) → IsHistory w h → (row : StoredDuty)
    → IsIn row (map duty_stored (duties w h)) → AreChangesOf (snapshot_of (tables w h)) row
of_each w h ok row m =
    let at = row_of w h row m in
    let d = at.duty in
    let ms = moves w h d.0 in
    let same = stored_of w h d at.listed in
    let own = duty_stored (duty_row (place w h d.0) d) in
    let here : AreChangesOf (snapshot_of (tables w h)) own = record {
      steps = subst (λ (rows : List StoredChange). AreFrom 1
          (map (λ (row : StoredChange). row.step) rows)) (sym same) (steps d.0 ms);
      formed = ap (list_all is_formed) same ∙ formed d.0 ms (runs w h ok d.0);
      moves = ap (are_moves (snapshot_of (tables w h)) (duty_state_name (place w h d.0))) same
          ∙ are_moved w h d ms at.listed refl (runs w h ok d.0) (started w h d at.listed);
    } in
    subst (AreChangesOf (snapshot_of (tables w h))) at.same here

-- ---- no other changes, and no other waivers

within : (w : Readings) (h : List Command) (row : StoredChange)
    → IsIn row (map change_stored (all_changes w h))
    → is_within (length (map duty_stored (duties w h))) row.duty ≡ true
within w h row m =
    let at = from_map change_stored row (all_changes w h) m in
    let own = from_flat_map (λ (d : ℕ × Owed). changes w h d.0) at.0 (numbered w h) at.1 in
    let bounds = in_numbers 1 (raised w h) own.0 own.1 in
    let duty : at.0.duty ≡ own.0.0 = duty_in own.0.0 (moves w h own.0.0) at.0 own.2 in
    subst (λ (row : StoredChange). is_within (length (map duty_stored (duties w h))) row.duty
    ≡ true) at.2
    (ap (λ (k : ℕ). is_within (length (map duty_stored (duties w h))) (pos k)) duty
    ∙ (ap (λ (n : ℕ). is_within n (pos own.0.0)) (length-duties w h)
    ∙ between own.0.0 (length (raised w h)) bounds.0 bounds.1))
  where
    duty_in : (q : ℕ) (ms : List Move) (row : ChangeRow) → IsIn row (change_rows q ms)
        → row.duty ≡ q
    duty_in q [] row m = absurd m
    duty_in q (n ∷ ms) row m =
        elim (in_cases row (change_rows q ms) (change_row q (length ms + 1) n ∷ []) m) [
          | inl old ↦ duty_in q ms row old
          | inr new ↦ elim new [
            | inl same ↦ ap (λ (r : ChangeRow). r.duty) (sym same)
            | inr none ↦ absurd none
          ]
        ]

    between : (q n : ℕ) → 1 ≤ q → q < 1 + n → is_within n (pos q) ≡ true
    between q n le lt = grind (arith, nat_tests)

-- the move of a row
record MoveOf (q : ℕ) (all : List Move) (row : ChangeRow) : Type 0 where
  later : List Move
  move : Move
  before : List Move
  split : all ≡ later ++ move ∷ before
  same : change_row q (length before + 1) move ≡ row

move_of : (q : ℕ) (later ms : List Move) (row : ChangeRow) → IsIn row (change_rows q ms)
    → MoveOf q (later ++ ms) row
move_of q later [] row m = absurd m
move_of q later (n ∷ ms) row m =
    elim (in_cases row (change_rows q ms) (change_row q (length ms + 1) n ∷ []) m) [
      | inl old ↦ subst (λ (all : List Move). MoveOf q all row) (append_assoc later (n ∷ []) ms)
          (move_of q (later ++ n ∷ []) ms row old)
      | inr new ↦ elim new [
        | inl same ↦
            record { later = later; move = n; before = ms; split = refl; same = same }
        | inr none ↦ absurd none
      ]
    ]

run_at : (later : List Move) (m : Move) (ms : List Move) → IsRun (later ++ m ∷ ms)
    → ends_well m ≡ true
run_at [] m ms run = run.1.1
run_at (l ∷ later) m ms run = run_at later m ms run.2

waived_by : (m : Move) (q k : ℕ) (o : Option (List ℕ)) → m.last_day ≡ o → is_some o ≡ true
    → ends_well m ≡ true → is_waiver_of (change_stored (change_row q k m)) (unwrap_or o []) ≡ true
waived_by m q k None e some well = cc
waived_by m q k (Some last) e some well = sym (ap (λ (o : Option (List ℕ)). option_map_or
    (is_waiver_of (change_stored (change_row 0 0 m))) o true) e) ∙ well

waived_at : (w : Readings) (h : List Command) → IsHistory w h → (d : ℕ × Owed)
    → IsIn d (numbered w h) → (later : List Move) (m : Move) (before : List Move)
    → moves w h d.0 ≡ later ++ m ∷ before → is_some m.last_day ≡ true
    → is_waived (snapshot_of (tables w h)) (waiver_stored (change_row d.0 (length before + 1) m))
    ≡ true
waived_at w h ok d in_table later m before split some =
    let k = length before + 1 in
    let row = change_row d.0 k m in
    let test = is_change_at (pos d.0) (pos k) in
    let found : find test (map change_stored (all_changes w h)) ≡ Some (change_stored row) =
    find-map test change_stored (all_changes w h)
    ∙ ap (option_map change_stored)
    (find_same (λ (row : ChangeRow). test (change_stored row))
    (λ (row : ChangeRow). true && ((row.duty == d.0) && (row.step == k)))
    (λ row. rw (pos_eq row.duty d.0, pos_eq row.step k) refl) (all_changes w h)
    ∙ found_in_all w h d in_table (λ row. true) later m before split) in
    ap (λ (o : Option StoredChange). option_map_or
    (λ (row : StoredChange). is_waiver_of row (unwrap_or m.last_day [])) o false) found
    ∙ waived_by m d.0 k m.last_day refl some
    (run_at later m before (subst IsRun split (runs w h ok d.0)))

waived_row : (w : Readings) (h : List Command) → IsHistory w h → (row : ChangeRow)
    → IsIn row (all_changes w h) → is_waiver row ≡ true
    → is_waived (snapshot_of (tables w h)) (waiver_stored row) ≡ true
waived_row w h ok row m some =
    let own = from_flat_map (λ (d : ℕ × Owed). changes w h d.0) row (numbered w h) m in
    let by = move_of own.0.0 [] (moves w h own.0.0) row own.2 in
    let ends : is_some by.move.last_day ≡ true = ap (λ (r : ChangeRow). is_some r.last_day) by.same
    ∙ some in
    subst (λ (row : ChangeRow). is_waived (snapshot_of (tables w h)) (waiver_stored row) ≡ true)
    by.same (waived_at w h ok own.0 own.1 by.later by.move by.before by.split ends)

waived : (w : Readings) (h : List Command) → IsHistory w h → (waiver : StoredWaiver)
    → IsIn waiver (map waiver_stored (filter is_waiver (all_changes w h)))
    → is_waived (snapshot_of (tables w h)) waiver ≡ true
waived w h ok waiver m =
    let at = from_map waiver_stored waiver (filter is_waiver (all_changes w h)) m in
    let there = from_filter is_waiver at.0 (all_changes w h) at.1 in
    subst (λ (waiver : StoredWaiver). is_waived (snapshot_of (tables w h)) waiver ≡ true) at.2
    (waived_row w h ok at.0 there.0 there.1)

pub are_changes : (w : Readings) (h : List Command) → IsHistory w h
    → AreChanges (snapshot_of (tables w h))
are_changes w h ok =
    let s = snapshot_of (tables w h) in
    record {
      of_each = each_in (AreChangesOf s) (map duty_stored (duties w h)) (of_each w h ok);
      of_duties = all_pass (λ (row : StoredChange). is_within
          (length (map duty_stored (duties w h)))
          row.duty) (map change_stored (all_changes w h)) (within w h);
      waivers = all_pass (is_waived s) (map waiver_stored (filter is_waiver (all_changes w h)))
          (waived w h ok);
    }
