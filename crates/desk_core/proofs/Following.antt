-- The change of each command continues the rows for which it was made.
use Rattle.std.proofs.Common.{◌≡◌, ◌∙◌, ℕ, ◌+◌, ◌≤◌, Bool, true, false, cond, List, [], ◌∷◌, length}
use Rattle.std.proofs.Common.{map, refl, sym, ap, subst, arith}
use Rattle.std.specs.Prelude.{◌==◌, ◌&&◌, nat_lt, nat_le, not, filter, find, Option, Some, None, is_some}
use Rattle.std.specs.Option.{option_map, option_map_or, option_and_then}
use Rattle.desk_base.specs.Day.{is_day}
use Rattle.desk_model.specs.Texts.{is_note}
use Rattle.std.specs.List.{enumerate_from, filter_map, flat_map, list_all, list_any}
use Rattle.std.specs.Str.{bytes_eq}
use Rattle.std.proofs.lemmas.List.Folds.{list_all-append}
use Rattle.desk_base.specs.Limits as most
use Rattle.std.proofs.lemmas.Bool.Decides.{nat_tests}
use Rattle.std.proofs.lemmas.Bool.{and_from}
use Rattle.desk_model.specs.Readings.{Readings}
use Rattle.desk_model.specs.Tables.{Tables}
use Rattle.desk_model.specs.declared.row.Owed.{Owed}
use Rattle.desk_model.specs.declared.row.DutyRow.{DutyRow}
use Rattle.desk_model.specs.declared.command.Command.{Command}
use Rattle.desk_model.specs.declared.command.Command.TheVariants.{LoadCatalogue, Import}
use Rattle.desk_model.specs.declared.command.Command.TheVariants.{OpenRelease, Attach, Choose}
use Rattle.desk_model.specs.declared.command.Command.TheVariants.{Unchoose, Freeze, Meet, Waive}
use Rattle.desk_model.specs.declared.command.Command.TheVariants.{Reopen, Withdraw, CloseDay}
use Rattle.desk_model.specs.declared.command.Command.TheVariants.{Conclude, Adopt}
use Rattle.desk_model.specs.Keys.{is_choice_of, is_document, is_duty, is_duty_of, is_package}
use Rattle.desk_model.specs.Raised.{owed_code, owed_for, owed_for_terms, owed_under, rule_adopted}
use Rattle.desk_model.specs.Texts.{is_release_name}
use Rattle.desk_model.specs.Answers.{is_recorded, Choosing, Freezing, refused_first, unless}
use Rattle.desk_model.specs.Answers.{unready, unconcluded, not_enough, not_minimal, is_shipped}
use Rattle.desk_model.specs.Answers.{verdict_on, first_bad, gone, settled}
use Rattle.desk_model.specs.declared.reading.Rule.{Rule}
use Rattle.desk_model.specs.declared.row.AdoptionRow.{AdoptionRow}
use Rattle.desk_model.specs.declared.row.PackageRow.{PackageRow}
use Rattle.desk_model.specs.declared.row.ReleaseRow.{ReleaseRow}
use Rattle.desk_model.specs.declared.command.Answer.{Answer}
use Rattle.desk_model.specs.declared.refusal.Refusal.{Refusal}
use Rattle.desk_model.specs.declared.refusal.Refusal.TheVariants as why
use Rattle.desk_model.specs.declared.refusal.Limit.TheVariants as limit
use Rattle.desk_model.specs.declared.command.Answer.TheVariants as answered
use Rattle.desk_model.specs.declared.state.Word.{Word}
use Rattle.desk_model.specs.Moves.{change_row, is_over}
use Rattle.desk_model.specs.declared.row.Move.{Move}
use Rattle.desk_model.specs.declared.row.ChangeRow.{ChangeRow}
use Rattle.desk_model.specs.declared.row.Standing.{Standing}
use Rattle.desk_model.specs.declared.state.Word.TheVariants as word
use Rattle.desk_model.specs.Tables.{choice_row}
use Rattle.desk_model.specs.History.{term_set}
use Rattle.desk_base.proofs.Bools.{and_left, and_right}
use Rattle.desk_base.proofs.Numbers.{same_number}
use Rattle.desk_history.specs.FromTables.{answer_from, choosing_found, freezing_found, change_for}
use Rattle.desk_history.specs.FromTables.{moved_found, duty_found, new_duty, raised_row, owed_found}
use Rattle.desk_history.specs.FromTables.{steps_found, release_found, release_state_found}
use Rattle.desk_history.specs.FromTables.{state_found, form_found, rules_found, choice_found}
use Rattle.desk_history.specs.FromTables.{shipped_found, terms_found, standing_found, is_unmet}
use Rattle.desk_history.specs.FromTables.{ends, next_row}
use Rattle.desk_access.specs.Follows.{Follows, AreNext, are_numbered, are_first, are_next}
use Rattle.desk_access.specs.Follows.{are_of_duties, are_open_of, rise}
use Rattle.desk_base.proofs.Texts.{same_text}
use Rattle.desk_base.proofs.Lists.{filter-true}

numbered_on : (n : ℕ) (owed : List Owed)
    → are_numbered n (map new_duty (enumerate_from n owed)) ≡ true
numbered_on n [] = refl
numbered_on n (o ∷ owed) = rw (same_number n) (numbered_on (n + 1) owed)

first_on : (day : List ℕ) (n : ℕ) (owed : List Owed)
    → are_first n (map (raised_row day) (map new_duty (enumerate_from n owed))) ≡ true
first_on day n [] = refl
first_on day n (o ∷ owed) = rw (same_number n) (first_on day (n + 1) owed)

length-map : {A B : Type 0} (f : A → B) (xs : List A) → length (map f xs) ≡ length xs
length-map f [] = refl
length-map f (x ∷ xs) = omega (arith, length-map f xs)

-- a recorded answer comes after no refusal; the fourth refusal of a move is that its duty doesn't
-- exist
fourth : (a b c : Option Refusal) (so : Bool) (refusal : Refusal) (rest : List (Option Refusal))
    (answer : Answer) → is_recorded (refused_first (a ∷ b ∷ c ∷ unless so refusal ∷ rest) answer)
    ≡ true → so ≡ true
fourth None None None true refusal rest answer recorded = refl
fourth None None None false refusal rest answer recorded = absurd (cc)
fourth None None (Some other) so refusal rest answer recorded = absurd (cc)
fourth None (Some other) c so refusal rest answer recorded = absurd (cc)
fourth (Some other) b c so refusal rest answer recorded = absurd (cc)

some_row : (duty : Option DutyRow) → is_some (option_map (λ row. row.state) duty) ≡ true
    → is_some duty ≡ true
some_row None some = some
some_row (Some row) some = refl

-- a duty that is moved exists
stands : (t : Tables) (word : Word) (q : ℕ) (day text : List ℕ) (until : Option (List ℕ))
    → is_recorded (moved_found t word q day text until) ≡ true → is_some (duty_found t q) ≡ true
stands t word q day text until recorded =
    let place = option_map (λ row. row.state) (duty_found t q) in
    some_row (duty_found t q)
    (fourth (unless (is_day day && option_map_or is_day until true) why.BadDay)
    (unless (is_note text) why.BadText) (unless (not (is_over day until)) why.BadEnd)
    (is_some place) why.UnknownDuty
    (gone (release_state_found t (duty_found t q)) ∷ option_and_then (settled word) place
    ∷ unless (nat_lt (steps_found t q) 999) (why.Full limit.Changes) ∷ []) answered.Done recorded)

-- one change
next_one : (t : Tables) (q : ℕ) (m : Move) → is_some (duty_found t q) ≡ true
    → AreNext t (change_row q (steps_found t q + 1) m ∷ [])
next_one t q m some = (
  and_from (steps_found t q + 1 == steps_found t q + 1) true
      (same_number (steps_found t q + 1)) refl,
  λ e. refl,
  and_from (is_some (duty_found t q)) true some refl,
)

-- the changes of the duties that pass two tests
abbrev those : Tables → Move → (Standing → Bool) → (DutyRow → Bool) → List DutyRow → List ChangeRow
those t m is test rows = map (next_row m) (filter is (map (standing_found t) (filter test rows)))

next_all : (t : Tables) (m : Move) (is : Standing → Bool) (test : DutyRow → Bool)
    (rows : List DutyRow) → are_next t (those t m is test rows) ≡ true
next_all t m is test [] = refl
next_all t m is test (row ∷ rows) =
    let rest = next_all t m is test rows in
    elim (test row) as (λ b. are_next t
    (map (next_row m) (filter is (map (standing_found t)
    (cond b (row ∷ filter test rows) (filter test rows))))) ≡ true) [
      | false ↦ rest
      | true ↦ elim (is (standing_found t row)) as
          (λ b. are_next t (map (next_row m)
          (cond b (standing_found t row ∷ filter is (map (standing_found t) (filter test rows)))
          (filter is (map (standing_found t) (filter test rows))))) ≡ true) [
            | false ↦ rest
            | true ↦ and_from (steps_found t row.number + 1 == steps_found t row.number + 1)
                (are_next t (those t m is test rows)) (same_number (steps_found t row.number + 1))
                rest
          ]
    ]

abbrev numbers_of : List DutyRow → List ℕ
numbers_of rows = map (λ (row : DutyRow). row.number) rows

abbrev duties_of : List ChangeRow → List ℕ
duties_of rows = map (λ (row : ChangeRow). row.duty) rows

above_kept : (t : Tables) (m : Move) (is : Standing → Bool) (test : DutyRow → Bool) (n : ℕ)
    (rows : List DutyRow) → list_all (nat_lt n) (numbers_of rows) ≡ true
    → list_all (nat_lt n) (duties_of (those t m is test rows)) ≡ true
above_kept t m is test n [] e = refl
above_kept t m is test n (row ∷ rows) e =
    let here = and_left (nat_lt n row.number) (list_all (nat_lt n) (numbers_of rows)) e in
    let rest = above_kept t m is test n rows
    (and_right (nat_lt n row.number) (list_all (nat_lt n) (numbers_of rows)) e) in
    elim (test row) as (λ b. list_all (nat_lt n)
    (duties_of (map (next_row m) (filter is
    (map (standing_found t) (cond b (row ∷ filter test rows) (filter test rows)))))) ≡ true) [
      | false ↦ rest
      | true ↦ elim (is (standing_found t row)) as
          (λ b. list_all (nat_lt n) (duties_of
          (map (next_row m) (cond b (standing_found t row
          ∷ filter is (map (standing_found t) (filter test rows)))
          (filter is (map (standing_found t) (filter test rows)))))) ≡ true) [
            | false ↦ rest
            | true ↦ and_from (nat_lt n row.number)
                (list_all (nat_lt n) (duties_of (those t m is test rows))) here rest
          ]
    ]

rise_kept : (t : Tables) (m : Move) (is : Standing → Bool) (test : DutyRow → Bool)
    (rows : List DutyRow) → rise (numbers_of rows) ≡ true
    → rise (duties_of (those t m is test rows)) ≡ true
rise_kept t m is test [] e = refl
rise_kept t m is test (row ∷ rows) e =
    let above = above_kept t m is test row.number rows
    (and_left (list_all (nat_lt row.number) (numbers_of rows)) (rise (numbers_of rows)) e) in
    let rest = rise_kept t m is test rows
    (and_right (list_all (nat_lt row.number) (numbers_of rows)) (rise (numbers_of rows)) e) in
    elim (test row) as (λ b. rise
    (duties_of (map (next_row m) (filter is
    (map (standing_found t) (cond b (row ∷ filter test rows) (filter test rows)))))) ≡ true) [
      | false ↦ rest
      | true ↦ elim (is (standing_found t row)) as
          (λ b. rise (duties_of (map (next_row m)
          (cond b (standing_found t row ∷ filter is (map (standing_found t) (filter test rows)))
          (filter is (map (standing_found t) (filter test rows)))))) ≡ true) [
            | false ↦ rest
            | true ↦ and_from (list_all (nat_lt row.number) (duties_of (those t m is test rows)))
                (rise (duties_of (those t m is test rows))) above rest
          ]
    ]

weaker : {A : Type 0} (p q : A → Bool) → ((x : A) → p x ≡ true → q x ≡ true) → (xs : List A)
    → list_all p xs ≡ true → list_all q xs ≡ true
weaker p q h [] e = refl
weaker p q h (x ∷ xs) e = and_from (q x) (list_all q xs) (h x (and_left (p x) (list_all p xs) e))
    (weaker p q h xs (and_right (p x) (list_all p xs) e))

found_behind : (x : DutyRow) (rows : List DutyRow) (n : ℕ) → is_some (find (is_duty n) rows) ≡ true
    → is_some (find (is_duty n) (x ∷ rows)) ≡ true
found_behind x rows n e = elim (x.number == n) as
    (λ b. is_some (cond b (Some x) (find (is_duty n) rows)) ≡ true) [ false ↦ e | true ↦ refl ]

-- a duty of a list is found in it by its number
each_found : (rows : List DutyRow)
    → list_all (λ row. is_some (find (is_duty row.number) rows)) rows ≡ true
each_found [] = refl
each_found (x ∷ rows) =
    and_from (is_some (find (is_duty x.number) (x ∷ rows)))
    (list_all (λ (row : DutyRow). is_some (find (is_duty row.number) (x ∷ rows))) rows)
    (rw (same_number x.number) refl)
    (weaker (λ (row : DutyRow). is_some (find (is_duty row.number) rows))
    (λ (row : DutyRow). is_some (find (is_duty row.number) (x ∷ rows)))
    (λ row e. found_behind x rows row.number e) rows (each_found rows))

stand_kept : (t : Tables) (m : Move) (is : Standing → Bool) (test : DutyRow → Bool)
    (rows : List DutyRow) → list_all (λ (row : DutyRow). is_some (duty_found t row.number)) rows
    ≡ true → are_of_duties t (those t m is test rows) ≡ true
stand_kept t m is test [] e = refl
stand_kept t m is test (row ∷ rows) e =
    let some = λ (row : DutyRow). is_some (duty_found t row.number) in
    let here = and_left (some row) (list_all some rows) e in
    let rest = stand_kept t m is test rows (and_right (some row) (list_all some rows) e) in
    elim (test row) as (λ b. are_of_duties t
    (map (next_row m) (filter is (map (standing_found t)
    (cond b (row ∷ filter test rows) (filter test rows))))) ≡ true) [
      | false ↦ rest
      | true ↦ elim (is (standing_found t row)) as
          (λ b. are_of_duties t (map (next_row m)
          (cond b (standing_found t row ∷ filter is (map (standing_found t) (filter test rows)))
          (filter is (map (standing_found t) (filter test rows))))) ≡ true) [
            | false ↦ rest
            | true ↦ and_from (some row) (are_of_duties t (those t m is test rows)) here rest
          ]
    ]

next_many : (t : Tables) (m : Move) (is : Standing → Bool) (test : DutyRow → Bool)
    → AreNext t (those t m is test t.duty)
next_many t m is test = (
  next_all t m is test t.duty,
  rise_kept t m is test t.duty,
  stand_kept t m is test t.duty (each_found t.duty),
)

next_ended : (t : Tables) (m : Move) (test : DutyRow → Bool)
    → AreNext t (map (next_row m) (map (standing_found t) (filter test t.duty)))
next_ended t m test = subst (AreNext t)
    (ap (map (next_row m)) (filter-true (map (standing_found t) (filter test t.duty))))
    (next_many t m (λ s. true) test)

-- Releases that exist

some_release : (found : Option ReleaseRow) → is_some (option_map (λ row. row.state) found) ≡ true
    → is_some found ≡ true
some_release None some = some
some_release (Some row) some = refl

-- the name of a release that is opened is no other release's
unnamed : (named formed taken fits : Bool)
    → is_recorded (refused_first (unless named why.BadName ∷ unless formed why.UnknownForm
    ∷ unless (not taken) why.NameTaken ∷ unless fits (why.Full limit.Releases) ∷ []) answered.Done)
    ≡ true
    → taken ≡ false
unnamed true true false fits recorded = refl
unnamed true true true fits recorded = absurd (cc)
unnamed true false taken fits recorded = absurd (cc)
unnamed false formed taken fits recorded = absurd (cc)

-- that there is no such release is the first refusal of an Unchoose and the second of a Choose
first : (so : Bool) (refusal : Refusal) (rest : List (Option Refusal)) (answer : Answer)
    → is_recorded (refused_first (unless so refusal ∷ rest) answer) ≡ true → so ≡ true
first true refusal rest answer recorded = refl
first false refusal rest answer recorded = absurd (cc)

second : (bad : Option Refusal) (so : Bool) (refusal : Refusal) (rest : List (Option Refusal))
    (answer : Answer)
    → is_recorded (refused_first (bad ∷ unless so refusal ∷ rest) answer) ≡ true → so ≡ true
second None so refusal rest answer recorded = first so refusal rest answer recorded
second (Some why) so refusal rest answer recorded = absurd (cc)

-- a release that is frozen exists, and there is room for its duties
frozen_in : (dated known : Bool) (ready : Option Refusal) (some : Bool) (fault : Option Refusal)
    (fits : Bool) (answer : Answer)
    → is_recorded (refused_first (unless dated why.BadDay ∷ unless known why.UnknownRelease ∷ ready
    ∷ unless some why.EmptyRelease ∷ fault ∷ unless fits (why.Full limit.Duties) ∷ []) answer)
    ≡ true
    → (known ≡ true) × (fits ≡ true)
frozen_in false known ready some fault fits answer recorded = absurd (cc)
frozen_in true false ready some fault fits answer recorded = absurd (cc)
frozen_in true true (Some refusal) some fault fits answer recorded = absurd (cc)
frozen_in true true None false fault fits answer recorded = absurd (cc)
frozen_in true true None true (Some refusal) fits answer recorded = absurd (cc)
frozen_in true true None true None false answer recorded = absurd (cc)
frozen_in true true None true None true answer recorded = (refl, refl)

room_for : (old new : ℕ) → nat_le (old + new) most.duties ≡ true → old + new ≤ most.duties
room_for old new fits = grind (arith, nat_tests)

-- The rows of choices and of new duties

pub choices_of : (r : List ℕ) (d : ℕ) (p : List ℕ) (terms : List (List ℕ))
    → list_all (is_choice_of r d p) (map (choice_row r d p) terms) ≡ true
choices_of r d p [] = refl
choices_of r d p (term ∷ terms) = rw (same_text r, same_number d, same_text p)
    (choices_of r d p terms)

-- whether a duty is owed by a release
abbrev pub is_owed_by : List ℕ → Owed → Bool
is_owed_by r owed = bytes_eq owed.release r

pub open_on : (r : List ℕ) (n : ℕ) (owed : List Owed) → list_all (is_owed_by r) owed ≡ true
    → are_open_of r (map new_duty (enumerate_from n owed)) ≡ true
open_on r n [] all = refl
open_on r n (o ∷ owed) all =
    and_from (bytes_eq o.release r && true)
    (are_open_of r (map new_duty (enumerate_from (n + 1) owed)))
    (and_from (bytes_eq o.release r) true
    (and_left (is_owed_by r o) (list_all (is_owed_by r) owed) all)
    refl)
    (open_on r (n + 1) owed (and_right (is_owed_by r o) (list_all (is_owed_by r) owed) all))

pub count_on : (n : ℕ) (owed : List Owed)
    → length (map new_duty (enumerate_from n owed)) ≡ length owed
count_on n [] = refl
count_on n (o ∷ owed) = omega (arith, count_on (n + 1) owed)

all_flat : {A B : Type 0} (test : B → Bool) (f : A → List B)
    → ((x : A) → list_all test (f x) ≡ true) → (xs : List A) → list_all test (flat_map f xs) ≡ true
all_flat test f each [] = refl
all_flat test f each (x ∷ xs) = list_all-append test (f x) (flat_map f xs)
    ∙ and_from (list_all test (f x)) (list_all test (flat_map f xs)) (each x)
    (all_flat test f each xs)

pub owed_codes : (r : List ℕ) (p : PackageRow) (term : List ℕ) (rule : Rule) (codes : List (List ℕ))
    → list_all (is_owed_by r) (map (owed_code r p term rule) codes) ≡ true
owed_codes r p term rule [] = refl
owed_codes r p term rule (code ∷ codes) = rw (same_text r) (owed_codes r p term rule codes)

owed_rule : (r : List ℕ) (p : PackageRow) (term : List ℕ) (rule : Option Rule)
    → list_all (is_owed_by r) (owed_under r p term rule) ≡ true
owed_rule r p term None = refl
owed_rule r p term (Some rule) = owed_codes r p term rule rule.codes

owed_all : (w : Readings) (licences : List AdoptionRow) (rules : List Rule) (form r : List ℕ)
    (chosen : PackageRow → List (List ℕ)) (ps : List PackageRow)
    → list_all (is_owed_by r) (owed_for w licences rules form r chosen ps) ≡ true
owed_all w licences rules form r chosen ps =
    all_flat (is_owed_by r) (λ p. owed_for_terms w licences rules form r p (chosen p))
    (λ p. all_flat (is_owed_by r)
    (λ term. owed_under r p term (rule_adopted w licences rules form p.document term))
    (λ term. owed_rule r p term (rule_adopted w licences rules form p.document term)) (chosen p)) ps

pub change_follows : (w : Readings) (t : Tables) (c : Command)
    → is_recorded (answer_from w t c) ≡ true → Follows (change_for w t c) t
change_follows w t (LoadCatalogue text) recorded = refl
change_follows w t (Import bytes profile) recorded = refl
change_follows w t (OpenRelease r form) recorded = (
  refl,
  unnamed (is_release_name r) (list_any (bytes_eq form) t.forms) (is_some (release_found t r))
      (nat_lt (length t.releases) most.releases) recorded,
)
change_follows w t (Attach r d) recorded = tt
change_follows w t (Choose r d p texts) recorded =
    let found : Choosing = choosing_found w t r d p in
    let terms = filter_map w.term texts in
    let rest = unless found.has_document why.UnknownDocument
    ∷ unless (is_some found.row) why.UnknownPackage ∷ option_and_then unready found.state
    ∷ unless (is_shipped found) why.NotShipped
    ∷ option_and_then (unconcluded found.conclusion) found.row
    ∷ option_and_then not_enough (verdict_on w found.conclusion terms)
    ∷ option_and_then (not_minimal terms) (verdict_on w found.conclusion terms) ∷ [] in
    let bad = option_map (λ i. why.BadTerm i) (first_bad w 0 texts) in (
      some_release (release_found t r)
          (second bad (is_some (state_found t r)) why.UnknownRelease rest answered.Done recorded),
      choices_of r d p (term_set w texts),
    )
change_follows w t (Freeze r day) recorded =
    let owed = owed_found w t r in
    let n = length t.duty + 1 in
    let found : Freezing = freezing_found w t r in
    let made = frozen_in (is_day day) (is_some found.state) (option_and_then unready found.state)
    (nat_lt 0 found.attached) found.fault
    (nat_le (found.raised + found.owed) most.duties) (answered.Frozen (found.raised + 1) found.owed)
    recorded in (
      numbered_on n owed,
      first_on day n owed,
      length-map (raised_row day) (map new_duty (enumerate_from n owed)),
      some_release (release_found t r) made.0,
      open_on r n owed (owed_all w t.adoption (rules_found t) (form_found t r) r (choice_found t r)
          (shipped_found t r)),
      subst (λ k. length t.duty + k ≤ most.duties) (sym (count_on n owed))
          (room_for (length t.duty) (length owed) made.1),
    )
change_follows w t (Unchoose r d p) recorded =
    let rest = unless (is_some (find (is_document d) t.document)) why.UnknownDocument
    ∷ unless (is_some (find (is_package d p) t.packages)) why.UnknownPackage
    ∷ option_and_then unready (state_found t r)
    ∷ unless (nat_lt 0 (length (terms_found t r d p))) (why.NoChoice d p) ∷ [] in (
      some_release (release_found t r)
          (first (is_some (state_found t r)) why.UnknownRelease rest answered.Done recorded),
      refl,
    )
change_follows w t (Meet q day text) recorded = next_one t q
    (record { day = day; word = word.Met; body = text; last_day = None })
    (stands t word.Met q day text None recorded)
change_follows w t (Waive q day text until) recorded = next_one t q
    (record { day = day; word = word.Waived; body = text; last_day = until })
    (stands t word.Waived q day text until recorded)
change_follows w t (Reopen q day text) recorded = next_one t q
    (record { day = day; word = word.Reopened; body = text; last_day = None })
    (stands t word.Reopened q day text None recorded)
change_follows w t (Withdraw r day text) recorded = next_many t
    (record { day = day; word = word.Withdrawn; body = text; last_day = None }) is_unmet
    (is_duty_of r)
change_follows w t (CloseDay day) recorded = next_ended t
    (record { day = day; word = word.Ended; body = []; last_day = None }) (ends t day)
change_follows w t (Conclude d p text) recorded = tt
change_follows w t (Adopt d reference licence) recorded = tt
