-- Which duties keep a release back: those that are open once the day is closed.
use Rattle.std.proofs.Common.{◌≡◌, ◌∙◌, ◌⊎◌, inl, inr, ℕ, Bool, true, false, cond, List, [], ◌∷◌, map}
use Rattle.std.proofs.Common.{length, refl, sym, ap, subst, Option, Some, None}
use Rattle.std.specs.Prelude.{◌&&◌, filter, is_some, if◌then◌else◌}
use Rattle.std.specs.List.{count_by}
use Rattle.std.specs.Option.{option_map, option_map_or, option_and_then}
use Rattle.std.proofs.lemmas.List.Sums.{length-filter}
use Rattle.std.proofs.lemmas.Simd.{map-map}
use Rattle.desk_base.specs.Day.{is_day}
use Rattle.desk_model.specs.Answers.{refused_first, release_state, unless}
use Rattle.desk_model.specs.History.{form_of, state_of}
use Rattle.desk_model.specs.Keys.{is_duty_of}
use Rattle.desk_model.specs.Lists.{IsIn}
use Rattle.desk_model.specs.Moves.{changes, duties, duty_row, end_after, has_ended, is_over}
use Rattle.desk_model.specs.Moves.{move_if, moves, place, place_after, with_move}
use Rattle.desk_model.specs.Queries.{duties_of, duty_line, is_open_of, queried, totals_of}
use Rattle.desk_model.specs.Queries.{unready_duties}
use Rattle.desk_model.specs.Raised.{numbered}
use Rattle.desk_model.specs.Readings.{Readings}
use Rattle.desk_model.specs.Ready.{keeps_back, unfrozen}
use Rattle.desk_model.specs.States.{is_open, is_waived}
use Rattle.desk_model.specs.Texts.{is_before}
use Rattle.desk_model.specs.declared.command.Answer.{Answer}
use Rattle.desk_model.specs.declared.command.Answer.TheVariants as answered
use Rattle.desk_model.specs.declared.command.Command.{Command}
use Rattle.desk_model.specs.declared.command.Command.TheVariants.{CloseDay}
use Rattle.desk_model.specs.declared.command.DutyLine.{DutyLine}
use Rattle.desk_model.specs.declared.command.Query.TheVariants as query
use Rattle.desk_model.specs.declared.command.Totals.{Totals}
use Rattle.desk_model.specs.declared.refusal.Refusal.TheVariants as why
use Rattle.desk_model.specs.declared.row.DutyRow.{DutyRow}
use Rattle.desk_model.specs.declared.row.Move.{Move}
use Rattle.desk_model.specs.declared.row.Owed.{Owed}
use Rattle.desk_model.specs.declared.state.DutyState.{DutyState}
use Rattle.desk_model.specs.declared.state.DutyState.TheVariants as stands
use Rattle.desk_model.specs.declared.state.ReleaseState.{ReleaseState}
use Rattle.desk_model.specs.declared.state.ReleaseState.TheVariants as release
use Rattle.desk_model.specs.declared.state.Word.TheVariants as word
use Rattle.desk_history.specs.Lines.{ListsBack}
use Rattle.desk_history.proofs.Distinct.{from_filter}
use Rattle.desk_history.proofs.Members.{from_map, in_map}
use Rattle.desk_history.proofs.Ready.{holds_back, unready-once}
use Rattle.desk_history.proofs.Rows.{filter-map}

-- ---- when duties are listed

abbrev answer_by : Bool → Option ReleaseState → List DutyLine → Answer
answer_by is_day state kept = refused_first (
    unless is_day why.BadDay
    ∷ unless (is_some state) why.UnknownRelease
    ∷ option_and_then unfrozen state
    ∷ []) (answered.Duties kept)

told : (is_day : Bool) (state : Option ReleaseState) (kept lines : List DutyLine)
    → answer_by is_day state kept ≡ answered.Duties lines
    → (is_day ≡ true) × (state ≡ Some release.Frozen) × (kept ≡ lines)
told false state kept lines e = absurd (cc)
told true None kept lines e = absurd (cc)
told true (Some release.IsOpen) kept lines e = absurd (cc)
told true (Some release.Withdrawn) kept lines e = absurd (cc)
told true (Some release.Frozen) kept lines e = (refl, refl, cc)

abbrev kept_lines : Readings → List Command → List ℕ → Option (List ℕ) → List DutyLine
kept_lines w h r day = map (duty_line (changes w h)) (unready_duties w h r day)

pub listed : (w : Readings) (h : List Command) (r : List ℕ) (day : Option (List ℕ))
    → option_map_or is_day day true ≡ true → release_state h r ≡ Some release.Frozen
    → (lines : List DutyLine) × ListsBack w h r day lines
listed w h r day is frozen = (
  kept_lines w h r day,
  ap (λ b. answer_by b (release_state h r) (kept_lines w h r day)) is
      ∙ ap (λ s. answer_by true s (kept_lines w h r day)) frozen,
)

pub listed_only : (w : Readings) (h : List Command) (r : List ℕ) (day : Option (List ℕ))
    (lines : List DutyLine) → ListsBack w h r day lines
    → (option_map_or is_day day true ≡ true) × (release_state h r ≡ Some release.Frozen)
listed_only w h r day lines e =
    let found = told (option_map_or is_day day true) (release_state h r) (kept_lines w h r day)
    lines e in
    (found.0, found.1)

kept_are : (w : Readings) (h : List Command) (r : List ℕ) (day : Option (List ℕ))
    (lines : List DutyLine) → ListsBack w h r day lines → kept_lines w h r day ≡ lines
kept_are w h r day lines e = (told (option_map_or is_day day true) (release_state h r)
    (kept_lines w h r day) lines e).2

-- ---- which are listed

open_alone : (s : DutyState) (end : Option (List ℕ)) → keeps_back None s end ≡ is_open s
open_alone stands.IsOpen end = refl
open_alone stands.Met end = refl
open_alone stands.Waived end = refl
open_alone stands.Withdrawn end = refl

pub open_listed : (w : Readings) (h : List Command) (r : List ℕ) (lines : List DutyLine)
    → ListsBack w h r None lines
    → lines ≡ map (duty_line (changes w h)) (filter (is_open_of r) (duties w h))
open_listed w h r lines e =
    sym (kept_are w h r None lines e)
    ∙ (ap (map (duty_line (changes w h))) (unready-once w h r None)
    ∙ (λ i. map (duty_line (changes w h)) (filter (λ (row : DutyRow). is_duty_of r row
    && open_alone row.state (end_after (moves w h row.number)) i) (duties w h))))

abbrev ending : List ℕ → Move
ending day = record { day = day; word = word.Ended; body = []; last_day = None }

opened_by : (day : List ℕ) (s : DutyState) (end : Option (List ℕ)) (ms : List Move)
    → s ≡ place_after ms → keeps_back (Some day) s end
    ≡ is_open (place_after (with_move (move_if (has_ended day s end) (ending day)) ms))
opened_by day stands.IsOpen end ms e = ap is_open e
opened_by day stands.Met end ms e = ap is_open e
opened_by day stands.Withdrawn end ms e = ap is_open e
opened_by day stands.Waived end ms e =
    elim (is_over day end) as
    (λ b. b ≡ is_open (place_after (with_move (move_if b (ending day)) ms)))
    [ true ↦ refl | false ↦ ap is_open e ]

opened : (w : Readings) (h : List Command) (day : List ℕ) (q : ℕ)
    → keeps_back (Some day) (place w h q) (end_after (moves w h q))
    ≡ is_open (place w (CloseDay day ∷ h) q)
opened w h day q = opened_by day (place w h q) (end_after (moves w h q)) (moves w h q) refl

pub closed_listed : (w : Readings) (h : List Command) (r day : List ℕ) (lines : List DutyLine)
    → ListsBack w h r (Some day) lines → map (λ (line : DutyLine). line.number) lines
    ≡ map (λ (row : DutyRow). row.number) (filter (is_open_of r) (duties w (CloseDay day ∷ h)))
closed_listed w h r day lines e =
    let ds = numbered w h in
    let row : ℕ × Owed → DutyRow = λ d. duty_row (place w h d.0) d in
    let after : ℕ × Owed → DutyRow = λ d. duty_row (place w (CloseDay day ∷ h) d.0) d in
    let number : DutyRow → ℕ = λ row. row.number in
    ap (map (λ (line : DutyLine). line.number)) (sym (kept_are w h r (Some day) lines e))
    ∙ (map-map (λ (line : DutyLine). line.number) (duty_line (changes w h))
    (unready_duties w h r (Some day))
    ∙ (ap (map number) (unready-once w h r (Some day)
    ∙ filter-map (holds_back w h r (Some day)) row ds)
    ∙ (map-map number row (filter (λ (d : ℕ × Owed). holds_back w h r (Some day) (row d)) ds)
    ∙ ((λ i. map (λ (d : ℕ × Owed). d.0) (filter (λ (d : ℕ × Owed). is_duty_of r (row d)
    && opened w h day d.0 i) ds))
    ∙ (sym (map-map number after (filter (λ (d : ℕ × Owed). is_open_of r (after d)) ds))
    ∙ ap (map number) (sym (filter-map (is_open_of r) after ds)))))))

-- ---- their lines

known : (h : List Command) (r : List ℕ) (form : Option (List ℕ))
    → option_map (λ (f : List ℕ). state_of h r) form ≡ Some release.Frozen → is_some form ≡ true
known h r None e = cc
known h r (Some form) e = refl

in_kept : {A B : Type 0} (f : A → B) (test : A → Bool) (y : B) (xs : List A)
    → IsIn y (map f (filter test xs)) → IsIn y (map f xs)
in_kept f test y xs m =
    let found = from_map f y (filter test xs) m in
    subst (λ z. IsIn z (map f xs)) found.2
    (in_map f found.0 xs (from_filter test found.0 xs found.1).0)

pub lines_listed : (w : Readings) (h : List Command) (r : List ℕ) (day : Option (List ℕ))
    (lines : List DutyLine) (line : DutyLine) → ListsBack w h r day lines → IsIn line lines
    → (all : List DutyLine) × (queried w h (query.Duties r) ≡ answered.Duties all) × IsIn line all
lines_listed w h r day lines line e is =
    let all = map (duty_line (changes w h)) (duties_of w h r) in
    let opens = known h r (form_of h r) (listed_only w h r day lines e).1 in (
      all,
      λ i. if opens i then answered.Duties all else answered.Refused why.UnknownRelease,
      in_kept (duty_line (changes w h))
          (λ row. keeps_back day row.state (end_after (moves w h row.number))) line
          (duties_of w h r)
          (subst (λ ls. IsIn line ls) (sym (kept_are w h r day lines e)) is),
    )

-- ---- nothing is listed

none_kept : {A B : Type 0} (f : A → B) (test : A → Bool) (xs : List A) → map f (filter test xs) ≡ []
    → (x : A) → IsIn x xs → test x ≡ false
none_kept f test [] e x m = absurd m
none_kept {A} f test (y ∷ ys) e x m = step (test y) refl e m (λ none n. none_kept f test ys none x n)
  where
    step : (b : Bool) → test y ≡ b → map f (cond b (y ∷ filter test ys) (filter test ys)) ≡ []
        → (y ≡ x) ⊎ IsIn x ys → (map f (filter test ys) ≡ [] → IsIn x ys → test x ≡ false)
        → test x ≡ false
    step true is e m rest = absurd (cc)
    step false is e (inl same) rest = ap test (sym same) ∙ is
    step false is e (inr n) rest = rest e n

filter_none : {A : Type 0} (test : A → Bool) (xs : List A)
    → ((x : A) → IsIn x xs → test x ≡ false) → filter test xs ≡ []
filter_none test [] none = refl
filter_none test (x ∷ xs) none =
    ap (λ b. cond b (x ∷ filter test xs) (filter test xs)) (none x (inl refl))
    ∙ filter_none test xs (λ y m. none y (inr m))

none_open : (day : Option (List ℕ)) (s : DutyState) (end : Option (List ℕ))
    → keeps_back day s end ≡ false → is_open s ≡ false
none_open day stands.IsOpen end e = e
none_open day stands.Met end e = refl
none_open day stands.Waived end e = refl
none_open day stands.Withdrawn end e = refl

none_back : (w : Readings) (h : List Command) (r : List ℕ) (day : Option (List ℕ))
    → ListsBack w h r day [] → (row : DutyRow) → IsIn row (duties_of w h r)
    → keeps_back day row.state (end_after (moves w h row.number)) ≡ false
none_back w h r day e = none_kept (duty_line (changes w h))
    (λ row. keeps_back day row.state (end_after (moves w h row.number))) (duties_of w h r)
    (kept_are w h r day [] e)

pub totals_ready : (w : Readings) (h : List Command) (r : List ℕ) (day : Option (List ℕ))
    → ListsBack w h r day [] → (totals : Totals)
    × (queried w h (query.Totals r) ≡ answered.Totals totals) × (totals.still_open ≡ 0)
totals_ready w h r day e =
    let rows = duties_of w h r in
    let opens = known h r (form_of h r) (listed_only w h r day [] e).1 in
    let is_open_row : DutyRow → Bool = λ row. is_open row.state in (
      totals_of rows,
      λ i. if opens i then answered.Totals (totals_of rows)
          else answered.Refused why.UnknownRelease,
      sym (length-filter is_open_row rows)
          ∙ ap length (filter_none is_open_row rows (λ row m. none_open day row.state
          (end_after (moves w h row.number)) (none_back w h r day e row m))),
    )

lasts : (day : List ℕ) (s : DutyState) (end : Option (List ℕ)) (last : List ℕ)
    → keeps_back (Some day) s end ≡ false → is_waived s ≡ true → end ≡ Some last
    → is_before last day ≡ false
lasts day stands.IsOpen end last e waived until = cc
lasts day stands.Met end last e waived until = cc
lasts day stands.Withdrawn end last e waived until = cc
lasts day stands.Waived end last e waived until = ap (is_over day) (sym until) ∙ e

pub waivers_last : (w : Readings) (h : List Command) (r day : List ℕ)
    → ListsBack w h r (Some day) [] → (row : DutyRow) (last : List ℕ) → IsIn row (duties_of w h r)
    → is_waived row.state ≡ true → end_after (moves w h row.number) ≡ Some last
    → is_before last day ≡ false
waivers_last w h r day e row last m waived until = lasts day row.state
    (end_after (moves w h row.number)) last (none_back w h r (Some day) e row m) waived until
