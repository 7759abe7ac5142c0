-- The tables after a withdrawal and after the end of waivers.
use Rattle.std.proofs.Common.{◌≡◌, ℕ, ◌+◌, ◌≤◌, Bool, true, false, cond, List, [], ◌∷◌, ◌++◌}
use Rattle.std.proofs.Common.{length, map, Option, Some, None, sym, refl, ap, ◌∙◌, arith, inl, inr}
use Rattle.std.specs.Prelude.{find, filter, ◌&&◌, ◌==◌, not}
use Rattle.std.specs.List.{enumerate_from, last_or}
use Rattle.std.specs.Option.{option_and_then, option_map_or}
use Rattle.std.specs.Str.{bytes_eq}
use Rattle.std.proofs.lemmas.Bool.Decides.{nat_tests}
use Rattle.desk_model.specs.Lists.{put_all, updated}
use Rattle.desk_model.specs.Readings.{Readings}
use Rattle.desk_model.specs.Keys.{is_release, is_duty_of, is_change_of, change_below}
use Rattle.desk_model.specs.History.{names}
use Rattle.desk_model.specs.Raised.{raised, numbered}
use Rattle.desk_model.specs.States.{is_met}
use Rattle.desk_model.specs.declared.row.Move.{Move}
use Rattle.desk_model.specs.Moves.{move_if, duties, duty_row, change_row, change_rows, moves, place}
use Rattle.desk_model.specs.Moves.{end_after, has_ended, is_raised_for, all_changes}
use Rattle.desk_model.specs.Tables.{tables, release_row, withdrawn_release, moved_by}
use Rattle.desk_model.specs.declared.row.Owed.{Owed}
use Rattle.desk_model.specs.declared.row.DutyRow.{DutyRow}
use Rattle.desk_model.specs.declared.row.ChangeRow.{ChangeRow}
use Rattle.desk_model.specs.declared.row.Standing.{Standing}
use Rattle.desk_model.specs.declared.state.Word.TheVariants as word
use Rattle.desk_model.specs.declared.command.Command.{Command}
use Rattle.desk_model.specs.declared.command.Command.TheVariants.{Withdraw, CloseDay}
use Rattle.desk_history.specs.FromTables.{steps_found, end_found, standing_found, standings_found}
use Rattle.desk_history.specs.FromTables.{ended_found, is_unmet, ends, next_row, withdrawn_rows}
use Rattle.desk_history.specs.FromTables.{ended_rows}
use Rattle.std.proofs.lemmas.List.{length-map}
use Rattle.std.proofs.lemmas.Simd.{map-map}
use Rattle.desk_history.proofs.Rows.{updated-map, filter-map}
use Rattle.desk_history.proofs.Moving.{in_range, known_at, changes-numbered, steps-numbered}
use Rattle.desk_history.proofs.Moving.{new_row, new_rows, rows_of, changes_of, after, moved-duties}
use Rattle.desk_history.proofs.Moving.{moved-changes}
use Rattle.desk_history.proofs.Told.{last_or-end}
use Rattle.desk_base.proofs.Texts.{text_tells, texts_turned}
use Rattle.desk_base.proofs.Numbers.{same_number}

-- Lists of duties with their numbers

abbrev pub Found : ℕ → List Owed → ℕ × Owed → Type 0
Found n xs d = find (λ (e : ℕ × Owed). e.0 == d.0) (enumerate_from n xs) ≡ Some d

here_or_later : (n k : ℕ) → (n == k) ≡ true → n ≤ k
here_or_later n k t = grind (arith, nat_tests)

beyond_step : (n k : ℕ) (x : Owed) (rest : Option (ℕ × Owed)) (d : ℕ × Owed) (b : Bool)
    → (n == k) ≡ b → (rest ≡ Some d → n + 1 ≤ k) → cond b (Some (n, x)) rest ≡ Some d → n ≤ k
beyond_step n k x rest d true t later e = here_or_later n k t
beyond_step n k x rest d false t later e = let le : n + 1 ≤ k = later e in omega arith

beyond : (n k : ℕ) (xs : List Owed) (d : ℕ × Owed)
    → find (λ (e : ℕ × Owed). e.0 == k) (enumerate_from n xs) ≡ Some d → n ≤ k
beyond n k [] d e = cc
beyond n k (x ∷ xs) d e = beyond_step n k x
    (find (λ (e : ℕ × Owed). e.0 == k) (enumerate_from (n + 1) xs)) d (n == k) refl
    (beyond (n + 1) k xs d) e

other_number : (n k : ℕ) → n + 1 ≤ k → (n == k) ≡ false
other_number n k le = grind (arith, nat_tests)

first_found : (n : ℕ) (x : Owed) (xs : List Owed) → Found n (x ∷ xs) (n, x)
first_found n x xs = rw (same_number n) refl

later_found : (n : ℕ) (x : Owed) (xs : List Owed) (d : ℕ × Owed) → Found (n + 1) xs d
    → Found n (x ∷ xs) d
later_found n x xs d e = rw (other_number n d.0 (beyond (n + 1) d.0 xs d e)) e

-- tests that agree on the duties that are there
pub filter_found : (f g : ℕ × Owed → Bool) (n : ℕ) (xs : List Owed)
    → ((d : ℕ × Owed) → Found n xs d → f d ≡ g d)
    → filter f (enumerate_from n xs) ≡ filter g (enumerate_from n xs)
filter_found f g n [] same = refl
filter_found f g n (x ∷ xs) same = rw (
  same (n, x) (first_found n x xs),
  filter_found f g (n + 1) xs (λ d e. same d (later_found n x xs d e)),
) refl

-- and values that agree on those that pass a test
mapped_found : {B : Type 0} (f g : ℕ × Owed → B) (test : ℕ × Owed → Bool) (n : ℕ) (xs : List Owed)
    → ((d : ℕ × Owed) → Found n xs d → f d ≡ g d)
    → map f (filter test (enumerate_from n xs)) ≡ map g (filter test (enumerate_from n xs))
mapped_found f g test n [] same = refl
mapped_found f g test n (x ∷ xs) same =
    let rest = mapped_found f g test (n + 1) xs (λ d e. same d (later_found n x xs d e)) in
    let here = same (n, x) (first_found n x xs) in
    elim (test (n, x)) as (λ b. map f
    (cond b ((n, x) ∷ filter test (enumerate_from (n + 1) xs))
    (filter test (enumerate_from (n + 1) xs)))
    ≡ map g (cond b ((n, x) ∷ filter test (enumerate_from (n + 1) xs))
    (filter test (enumerate_from (n + 1) xs)))) [
      | true ↦ rw (here, rest) refl
      | false ↦ rest
    ]

pub filter-filter : {A : Type 0} (f g : A → Bool) (xs : List A)
    → filter f (filter g xs) ≡ filter (λ x. g x && f x) xs
filter-filter f g [] = refl
filter-filter f g (x ∷ xs) =
    elim (g x) as (λ b. filter f (cond b (x ∷ filter g xs) (filter g xs))
    ≡ cond (b && f x) (x ∷ filter (λ x. g x && f x) xs) (filter (λ x. g x && f x) xs)) [
      | true ↦ ap (λ ys. cond (f x) (x ∷ ys) ys) (filter-filter f g xs)
      | false ↦ filter-filter f g xs
    ]

-- The states of a history's duties

found_range : (w : Readings) (h : List Command) (d : ℕ × Owed) → Found 1 (raised w h) d
    → in_range 1 d.0 (length (raised w h)) ≡ true
found_range w h d e = sym (known_at w h d.0)
    ∙ ap (λ (o : Option (ℕ × Owed)). elim o [ Some x ↦ true | None ↦ false ]) e

rows_end : (q : ℕ) (ms : List Move)
    → option_and_then (λ (change : ChangeRow). change.last_day) (last_or None (change_rows q ms))
    ≡ end_after ms
rows_end q [] = refl
rows_end q (m ∷ ms) = ap (option_and_then (λ (change : ChangeRow). change.last_day))
    (last_or-end None (change_rows q ms) (change_row q (length ms + 1) m))

abbrev stands : Readings → List Command → ℕ × Owed → Standing
stands w h d = record { number = d.0; state = place w h d.0; steps = length (moves w h d.0) }

steps_same : (w : Readings) (h : List Command) (q : ℕ) → in_range 1 q (length (raised w h)) ≡ true
    → steps_found (tables w h) q ≡ length (moves w h q)
steps_same w h q here = steps-numbered w h q 1 (raised w h) ∙ rw here refl

stands-found : (w : Readings) (h : List Command) (d : ℕ × Owed) → Found 1 (raised w h) d
    → standing_found (tables w h) (duty_row (place w h d.0) d) ≡ stands w h d
stands-found w h d e =
    let at : ℕ → Standing = λ steps.
    record { number = d.0; state = place w h d.0; steps = steps } in
    ap at (steps_same w h d.0 (found_range w h d e))

rows-found : (w : Readings) (h : List Command) (q : ℕ) → in_range 1 q (length (raised w h)) ≡ true
    → filter (is_change_of q) (all_changes w h) ≡ change_rows q (moves w h q)
rows-found w h q here = changes-numbered w h q 1 (raised w h) ∙ rw here refl

pub end-found : (w : Readings) (h : List Command) (d : ℕ × Owed) → Found 1 (raised w h) d
    → end_found (tables w h) d.0 ≡ end_after (moves w h d.0)
end-found w h d e =
    ap (λ (rows : List ChangeRow). option_and_then (λ (change : ChangeRow). change.last_day)
    (last_or None rows)) (rows-found w h d.0 (found_range w h d e))
    ∙ rows_end d.0 (moves w h d.0)

standings : (w : Readings) (h : List Command) (test : DutyRow → Bool)
    → map (standing_found (tables w h)) (filter test (duties w h))
    ≡ map (stands w h) (filter (λ (d : ℕ × Owed). test (duty_row (place w h d.0) d)) (numbered w h))
standings w h test =
    let row : ℕ × Owed → DutyRow = λ d. duty_row (place w h d.0) d in
    ap (map (standing_found (tables w h))) (filter-map test row (numbered w h))
    ∙ (map-map (standing_found (tables w h)) row
    (filter (λ (d : ℕ × Owed). test (row d)) (numbered w h))
    ∙ mapped_found (λ (d : ℕ × Owed). standing_found (tables w h) (row d)) (stands w h)
    (λ (d : ℕ × Owed). test (row d)) 1 (raised w h) (stands-found w h))

standings_that : (w : Readings) (h : List Command) (test : DutyRow → Bool) (is : Standing → Bool)
    (moves_it : ℕ × Owed → Bool)
    → ((d : ℕ × Owed) → Found 1 (raised w h) d
    → (test (duty_row (place w h d.0) d) && is (stands w h d)) ≡ moves_it d)
    → filter is (map (standing_found (tables w h)) (filter test (duties w h)))
    ≡ map (stands w h) (filter moves_it (numbered w h))
standings_that w h test is moves_it same =
    ap (filter is) (standings w h test)
    ∙ (filter-map is (stands w h)
    (filter (λ (d : ℕ × Owed). test (duty_row (place w h d.0) d)) (numbered w h))
    ∙ ap (map (stands w h)) (filter-filter (λ (d : ℕ × Owed). is (stands w h d))
    (λ (d : ℕ × Owed). test (duty_row (place w h d.0) d)) (numbered w h)
    ∙ filter_found (λ (d : ℕ × Owed). test (duty_row (place w h d.0) d) && is (stands w h d))
    moves_it 1 (raised w h) same))

-- The rows of the duties that are moved

rows_moved : (before : ℕ → List Move) (moves_it : ℕ → Bool) (m : Move) (ds : List (ℕ × Owed))
    → new_rows before (λ q. move_if (moves_it q) m) ds
    ≡ map (λ (d : ℕ × Owed). change_row d.0 (length (before d.0) + 1) m)
    (filter (λ (d : ℕ × Owed). moves_it d.0) ds)
rows_moved before moves_it m [] = refl
rows_moved before moves_it m (d ∷ ds) =
    elim (moves_it d.0) as (λ b. new_row d.0 (before d.0) (move_if b m)
    ++ new_rows before (λ q. move_if (moves_it q) m) ds
    ≡ map (λ (d : ℕ × Owed). change_row d.0 (length (before d.0) + 1) m)
    (cond b (d ∷ filter (λ (d : ℕ × Owed). moves_it d.0) ds)
    (filter (λ (d : ℕ × Owed). moves_it d.0) ds))) [
      | true ↦ ap (λ rows. change_row d.0 (length (before d.0) + 1) m ∷ rows)
          (rows_moved before moves_it m ds)
      | false ↦ rows_moved before moves_it m ds
    ]

rows_that : (w : Readings) (h : List Command) (test : DutyRow → Bool) (is : Standing → Bool)
    (moves_it : ℕ → Bool) (m : Move)
    → ((d : ℕ × Owed) → Found 1 (raised w h) d
    → (test (duty_row (place w h d.0) d) && is (stands w h d)) ≡ moves_it d.0)
    → map (next_row m) (filter is (map (standing_found (tables w h)) (filter test (duties w h))))
    ≡ new_rows (moves w h) (λ q. move_if (moves_it q) m) (numbered w h)
rows_that w h test is moves_it m same =
    ap (map (next_row m)) (standings_that w h test is (λ (d : ℕ × Owed). moves_it d.0) same)
    ∙ (map-map (next_row m) (stands w h) (filter (λ (d : ℕ × Owed). moves_it d.0) (numbered w h))
    ∙ sym (rows_moved (moves w h) moves_it m (numbered w h)))

-- what such a move leaves
duties_that : (w : Readings) (h : List Command) (moves_it : ℕ → Bool) (m : Move)
    (rows : List ChangeRow) → rows
    ≡ new_rows (moves w h) (λ q. move_if (moves_it q) m) (numbered w h)
    → rows_of (after (moves w h) (λ q. move_if (moves_it q) m)) (numbered w h)
    ≡ moved_by rows (duties w h)
duties_that w h moves_it m rows e = sym (moved-duties (moves w h) (λ q. move_if (moves_it q) m) 1
    (raised w h)) ∙ ap (λ (cs : List ChangeRow). moved_by cs (duties w h)) (sym e)

changes_that : (w : Readings) (h : List Command) (moves_it : ℕ → Bool) (m : Move)
    (rows : List ChangeRow) → rows
    ≡ new_rows (moves w h) (λ q. move_if (moves_it q) m) (numbered w h)
    → changes_of (after (moves w h) (λ q. move_if (moves_it q) m)) (numbered w h)
    ≡ put_all change_below rows (all_changes w h)
changes_that w h moves_it m rows e = sym (moved-changes (moves w h) (λ q. move_if (moves_it q) m) 1
    (raised w h)) ∙ ap (λ (cs : List ChangeRow). put_all change_below cs (all_changes w h)) (sym e)

-- A withdrawal

abbrev withdrawal : List ℕ → List ℕ → Move
withdrawal day text = record { day = day; word = word.Withdrawn; body = text; last_day = None }

abbrev is_withdrawn_by : Readings → List Command → List ℕ → ℕ → Bool
is_withdrawn_by w h r q = is_raised_for w h q r && not (is_met (place w h q))

withdrawn_same : (w : Readings) (h : List Command) (r : List ℕ) (d : ℕ × Owed)
    → Found 1 (raised w h) d → (is_duty_of r (duty_row (place w h d.0) d)
    && is_unmet (stands w h d)) ≡ is_withdrawn_by w h r d.0
withdrawn_same w h r d e = ap (λ (o : Option (ℕ × Owed)). option_map_or
    (λ (e : ℕ × Owed). bytes_eq e.1.release r) o false && not (is_met (place w h d.0))) (sym e)

withdrawn-rows : (w : Readings) (h : List Command) (r day text : List ℕ)
    → withdrawn_rows day text (standings_found (tables w h) r)
    ≡ new_rows (moves w h) (λ q. move_if (is_withdrawn_by w h r q) (withdrawal day text))
    (numbered w h)
withdrawn-rows w h r day text = rows_that w h (is_duty_of r) is_unmet (is_withdrawn_by w h r)
    (withdrawal day text) (withdrawn_same w h r)

pub withdrawn-duties : (w : Readings) (h : List Command) (r day text : List ℕ)
    → duties w (Withdraw r day text ∷ h)
    ≡ moved_by (withdrawn_rows day text (standings_found (tables w h) r)) (duties w h)
withdrawn-duties w h r day text = duties_that w h (is_withdrawn_by w h r) (withdrawal day text) _
    (withdrawn-rows w h r day text)

pub withdrawn-changes : (w : Readings) (h : List Command) (r day text : List ℕ)
    → all_changes w (Withdraw r day text ∷ h)
    ≡ put_all change_below (withdrawn_rows day text (standings_found (tables w h) r))
    (all_changes w h)
withdrawn-changes w h r day text = changes_that w h (is_withdrawn_by w h r) (withdrawal day text) _
    (withdrawn-rows w h r day text)

pub withdrawn-releases : (w : Readings) (h : List Command) (r day text : List ℕ)
    → map (release_row (Withdraw r day text ∷ h)) (names h)
    ≡ updated (is_release r) withdrawn_release (map (release_row h) (names h))
withdrawn-releases w h r day text = sym (updated-map (is_release r) withdrawn_release
    (release_row h) (release_row (Withdraw r day text ∷ h)) (λ n.
    elim (text_tells n r) [
      | inl e ↦ (let f : bytes_eq r n ≡ true = texts_turned r n ∙ e.0 in rw (e.0, f) refl)
      | inr e ↦ (let f : bytes_eq r n ≡ false = texts_turned r n ∙ e.0 in rw (e.0, f) refl)
    ]) (names h))

-- Waivers that end

abbrev ending : List ℕ → Move
ending day = record { day = day; word = word.Ended; body = []; last_day = None }

abbrev is_ended_by : Readings → List Command → List ℕ → ℕ → Bool
is_ended_by w h day q = has_ended day (place w h q) (end_after (moves w h q))

ended_same : (w : Readings) (h : List Command) (day : List ℕ) (d : ℕ × Owed)
    → Found 1 (raised w h) d → ends (tables w h) day (duty_row (place w h d.0) d)
    ≡ is_ended_by w h day d.0
ended_same w h day d e = ap (has_ended day (place w h d.0)) (end-found w h d e)

ended-standings : (w : Readings) (h : List Command) (day : List ℕ)
    → ended_found (tables w h) day
    ≡ map (stands w h) (filter (λ (d : ℕ × Owed). is_ended_by w h day d.0) (numbered w h))
ended-standings w h day =
    standings w h (ends (tables w h) day)
    ∙ ap (map (stands w h)) (filter_found
    (λ (d : ℕ × Owed). ends (tables w h) day (duty_row (place w h d.0) d))
    (λ (d : ℕ × Owed). is_ended_by w h day d.0) 1 (raised w h) (ended_same w h day))

ended-rows : (w : Readings) (h : List Command) (day : List ℕ)
    → ended_rows day (ended_found (tables w h) day)
    ≡ new_rows (moves w h) (λ q. move_if (is_ended_by w h day q) (ending day)) (numbered w h)
ended-rows w h day =
    ap (map (next_row (ending day))) (ended-standings w h day)
    ∙ (map-map (next_row (ending day)) (stands w h)
    (filter (λ (d : ℕ × Owed). is_ended_by w h day d.0) (numbered w h))
    ∙ sym (rows_moved (moves w h) (is_ended_by w h day) (ending day) (numbered w h)))

pub ended-duties : (w : Readings) (h : List Command) (day : List ℕ)
    → duties w (CloseDay day ∷ h)
    ≡ moved_by (ended_rows day (ended_found (tables w h) day)) (duties w h)
ended-duties w h day = duties_that w h (is_ended_by w h day) (ending day) _ (ended-rows w h day)

pub ended-changes : (w : Readings) (h : List Command) (day : List ℕ)
    → all_changes w (CloseDay day ∷ h)
    ≡ put_all change_below (ended_rows day (ended_found (tables w h) day)) (all_changes w h)
ended-changes w h day = changes_that w h (is_ended_by w h day) (ending day) _ (ended-rows w h day)

-- how many end
pub ended-count : (w : Readings) (h : List Command) (day : List ℕ)
    → length (ended_found (tables w h) day)
    ≡ length (filter (λ (d : ℕ × Owed). has_ended day (place w h d.0) (end_after (moves w h d.0)))
    (numbered w h))
ended-count w h day = ap length (ended-standings w h day)
    ∙ length-map (filter (λ (d : ℕ × Owed). is_ended_by w h day d.0) (numbered w h)) (stands w h)
