-- What the rows of answers say.
use Rattle.std.proofs.Common.{◌≡◌, ◌∙◌, ℕ, ◌+◌, ◌≤◌, Bool, true, false, cond, List, [], ◌∷◌, ◌++◌, map}
use Rattle.std.proofs.Common.{length, refl, sym, ap, arith, Option, Some, None}
use Rattle.std.specs.Prelude.{◌||◌, codes, not, nat_lt, filter, find, is_some, if◌then◌else◌}
use Rattle.std.specs.List.{count_by, list_any}
use Rattle.std.specs.Str.{bytes_eq}
use Rattle.std.specs.Option.{option_map}
use Rattle.std.proofs.lemmas.Bool.Decides.{nat_tests}
use Rattle.std.proofs.lemmas.List.Elements.{filter-append}
use Rattle.std.proofs.lemmas.List.Sums.{length-filter, sum_by-cons}
use Rattle.std.proofs.lemmas.List.{append-nil}
use Rattle.desk_base.specs.Day.{is_day}
use Rattle.desk_base.specs.declared.profile.Profile.TheVariants.{Capitals}
use Rattle.desk_model.specs.Answers.{answer, closing, conclusion, refused_or, unless}
use Rattle.desk_model.specs.Bills.{first_uses, is_same_text}
use Rattle.desk_model.specs.Conclusions.{concluded_as, conclusion_by}
use Rattle.desk_model.specs.Conclusions.{profile_in, text_given}
use Rattle.desk_model.specs.History.{documents, form_of, profile_of}
use Rattle.desk_model.specs.Keys.{change_below, is_change_of, is_document, is_duty_of}
use Rattle.desk_model.specs.Lists.{latest, put, put_all}
use Rattle.desk_model.specs.Listings.{rule_cost, term_cost}
use Rattle.desk_model.specs.Moves.{all_changes, changes, duties, duty_at}
use Rattle.desk_model.specs.Names.{duty_state_name}
use Rattle.desk_model.specs.Queries.{duty_line, last_day, queried, totals_of}
use Rattle.desk_model.specs.Raised.{rule_adopted}
use Rattle.desk_model.specs.Readings.{Readings}
use Rattle.desk_model.specs.States.{is_open, is_met, is_waived, is_withdrawn}
use Rattle.desk_model.specs.Tables.{tables}
use Rattle.desk_model.specs.declared.bill.TextOf.{TextOf}
use Rattle.desk_model.specs.declared.command.Answer.TheVariants as answered
use Rattle.desk_model.specs.declared.command.Command.{Command}
use Rattle.desk_model.specs.declared.command.Command.TheVariants.{CloseDay}
use Rattle.desk_model.specs.declared.command.DutyLine.{DutyLine}
use Rattle.desk_model.specs.declared.command.Query.TheVariants as query
use Rattle.desk_model.specs.declared.command.Totals.{Totals}
use Rattle.desk_model.specs.declared.reading.Rule.{Rule}
use Rattle.desk_model.specs.declared.refusal.Refusal.TheVariants as why
use Rattle.desk_model.specs.declared.row.AdoptionRow.{AdoptionRow}
use Rattle.desk_model.specs.declared.row.ChangeRow.{ChangeRow}
use Rattle.desk_model.specs.declared.row.DocumentRow.{DocumentRow}
use Rattle.desk_model.specs.declared.row.DutyRow.{DutyRow}
use Rattle.desk_model.specs.declared.row.Owed.{Owed}
use Rattle.desk_model.specs.declared.row.PackageRow.{PackageRow}
use Rattle.desk_model.specs.declared.state.DutyState.{DutyState}
use Rattle.desk_model.specs.declared.state.DutyState.TheVariants as duty
use Rattle.desk_model.specs.declared.state.Word.TheVariants as word
use Rattle.desk_model.specs.declared.row.Standing.{Standing}
use Rattle.desk_history.specs.FromTables.{ended_found, ended_rows, next_row}
use Rattle.desk_history.specs.Lines.{AreLinesOf, AreTotalsOf, IsLineOf, count_named, is_ended}
use Rattle.desk_base.proofs.Bools.{or_left, or_right}
use Rattle.desk_history.proofs.Concluding.{last_conclusion}
use Rattle.desk_history.proofs.Lookups.{is_found}
use Rattle.desk_history.proofs.Queries.{query-answer, duty_known}
use Rattle.desk_history.proofs.Withdrawing.{ended-changes, ended-count}

-- ---- conclusions

concluded : (w : Readings) (h : List Command) (p : PackageRow) (o : Option (List ℕ))
    → latest (text_given p.document p.id) h ≡ o
    → conclusion w h p ≡ conclusion_by w o (profile_in (documents w h) p) p.concluded
concluded w h p o e =
    ap (λ text. conclusion_by w text (profile_in (documents w h) p) p.concluded)
    (last_conclusion h p.document p.id ∙ e)

pub office_concludes : (w : Readings) (h : List Command) (p : PackageRow) (text : List ℕ)
    → latest (text_given p.document p.id) h ≡ Some text
    → conclusion w h p ≡ Some (concluded_as Capitals text)
office_concludes w h p text e = concluded w h p (Some text) e

by_field : (w : Readings) (h : List Command) (p : PackageRow) (document : DocumentRow)
    (text : List ℕ) (b : Bool) → latest (text_given p.document p.id) h ≡ None
    → find (is_document p.document) (documents w h) ≡ Some document → p.concluded ≡ Some text
    → w.is_expression document.profile text ≡ b
    → conclusion w h p ≡ option_map (concluded_as document.profile) (cond b (Some text) None)
by_field w h p document text b none found field is =
    concluded w h p None none
    ∙ (λ i. conclusion_by w None (profile_of (found i)) (field i))
    ∙ ap (λ c. option_map (concluded_as document.profile) (cond c (Some text) None)) is

pub field_concludes : (w : Readings) (h : List Command) (p : PackageRow) (document : DocumentRow)
    (text : List ℕ) → latest (text_given p.document p.id) h ≡ None
    → find (is_document p.document) (documents w h) ≡ Some document → p.concluded ≡ Some text
    → w.is_expression document.profile text ≡ true
    → conclusion w h p ≡ Some (concluded_as document.profile text)
field_concludes w h p document text = by_field w h p document text true

pub nothing_concludes : (w : Readings) (h : List Command) (p : PackageRow)
    → latest (text_given p.document p.id) h ≡ None → p.concluded ≡ None → conclusion w h p ≡ None
nothing_concludes w h p none field =
    concluded w h p None none
    ∙ (λ i. conclusion_by w None (profile_in (documents w h) p) (field i))

pub unread_field : (w : Readings) (h : List Command) (p : PackageRow) (document : DocumentRow)
    (text : List ℕ) → latest (text_given p.document p.id) h ≡ None
    → find (is_document p.document) (documents w h) ≡ Some document → p.concluded ≡ Some text
    → w.is_expression document.profile text ≡ false → conclusion w h p ≡ None
unread_field w h p document text = by_field w h p document text false

-- ---- totals

same_count : (name : List ℕ) (test : DutyState → Bool)
    → ((s : DutyState) → test s ≡ bytes_eq (duty_state_name s) name) → (rows : List DutyRow)
    → count_by (λ (row : DutyRow). test row.state) rows ≡ count_named name rows
same_count name test same rows =
    (λ i. count_by (λ (row : DutyRow). same row.state i) rows)
    ∙ sym (length-filter (λ (row : DutyRow). bytes_eq (duty_state_name row.state) name) rows)

open_named : (s : DutyState) → is_open s ≡ bytes_eq (duty_state_name s) (codes "open")
open_named duty.IsOpen = refl
open_named duty.Met = refl
open_named duty.Waived = refl
open_named duty.Withdrawn = refl

met_named : (s : DutyState) → is_met s ≡ bytes_eq (duty_state_name s) (codes "met")
met_named duty.IsOpen = refl
met_named duty.Met = refl
met_named duty.Waived = refl
met_named duty.Withdrawn = refl

waived_named : (s : DutyState) → is_waived s ≡ bytes_eq (duty_state_name s) (codes "waived")
waived_named duty.IsOpen = refl
waived_named duty.Met = refl
waived_named duty.Waived = refl
waived_named duty.Withdrawn = refl

withdrawn_named : (s : DutyState)
    → is_withdrawn s ≡ bytes_eq (duty_state_name s) (codes "withdrawn")
withdrawn_named duty.IsOpen = refl
withdrawn_named duty.Met = refl
withdrawn_named duty.Waived = refl
withdrawn_named duty.Withdrawn = refl

are_totals : (rows : List DutyRow) → AreTotalsOf rows (totals_of rows)
are_totals rows = record {
  raised = refl;
  still_open = same_count (codes "open") is_open open_named rows;
  met = same_count (codes "met") is_met met_named rows;
  waived = same_count (codes "waived") is_waived waived_named rows;
  withdrawn = same_count (codes "withdrawn") is_withdrawn withdrawn_named rows;
}

pub totals_told : (w : Readings) (h : List Command) (r form : List ℕ) → form_of h r ≡ Some form
    → (totals : Totals) × (queried w h (query.Totals r) ≡ answered.Totals totals)
    × (let t = tables w h in AreTotalsOf (filter (is_duty_of r) t.duty) totals)
totals_told w h r form known =
    let rows = filter (is_duty_of r) (duties w h) in (
      totals_of rows,
      λ i. if is_some (known i) then answered.Totals (totals_of rows)
          else answered.Refused why.UnknownRelease,
      are_totals rows,
    )

-- ---- costs

pub few_codes : (w : Readings) (licences : List AdoptionRow) (rules : List Rule) (form : List ℕ)
    (d : ℕ) (term : List ℕ) (rule : Rule) → rule_adopted w licences rules form d term ≡ Some rule
    → length rule.codes ≤ 1000000
    → term_cost w licences rules form d term ≡ Some (length rule.codes)
few_codes w licences rules form d term rule is few =
    let within : nat_lt 1000000 (length rule.codes) ≡ false = grind (arith, nat_tests) in
    ap (option_map rule_cost) is ∙ ap (λ b. Some (cond b 1000000 (length rule.codes))) within

at_the_most : (n : ℕ) (b : Bool) → nat_lt 1000000 n ≡ b → 1000000 ≤ n → cond b 1000000 n ≡ 1000000
at_the_most n true is many = refl
at_the_most n false is many = grind (arith, nat_tests)

pub many_codes : (w : Readings) (licences : List AdoptionRow) (rules : List Rule) (form : List ℕ)
    (d : ℕ) (term : List ℕ) (rule : Rule) → rule_adopted w licences rules form d term ≡ Some rule
    → 1000000 ≤ length rule.codes → term_cost w licences rules form d term ≡ Some 1000000
many_codes w licences rules form d term rule is many =
    ap (option_map rule_cost) is
    ∙ ap Some (at_the_most (length rule.codes) (nat_lt 1000000 (length rule.codes)) refl many)

pub no_codes : (w : Readings) (licences : List AdoptionRow) (rules : List Rule) (form : List ℕ)
    (d : ℕ) (term : List ℕ) → rule_adopted w licences rules form d term ≡ None
    → term_cost w licences rules form d term ≡ None
no_codes w licences rules form d term is = ap (option_map rule_cost) is

-- ---- lines of duties

last_is : (before : List ChangeRow) (last : ChangeRow)
    → last_day (before ++ (last ∷ [])) ≡ Some last.day
last_is [] last = refl
last_is (x ∷ []) last = refl
last_is (x ∷ y ∷ before) last = last_is (y ∷ before) last

is_line : (all : List ChangeRow) (row : DutyRow)
    → IsLineOf all row (duty_line (λ q. filter (is_change_of q) all) row)
is_line all row = record {
  number = refl;
  document = refl;
  package_id = refl;
  term = refl;
  rule = refl;
  code = refl;
  state = refl;
  day = λ before last are. ap last_day are ∙ last_is before last;
}

are_lines : (all : List ChangeRow) (rows : List DutyRow)
    → AreLinesOf all rows (map (duty_line (λ q. filter (is_change_of q) all)) rows)
are_lines all [] = tt
are_lines all (row ∷ rows) = (is_line all row, are_lines all rows)

pub lines_told : (w : Readings) (h : List Command) (r form : List ℕ) → form_of h r ≡ Some form
    → (lines : List DutyLine) × (queried w h (query.Duties r) ≡ answered.Duties lines)
    × (let t = tables w h in AreLinesOf t.changes (filter (is_duty_of r) t.duty) lines)
lines_told w h r form known =
    let all = all_changes w h in
    let rows = filter (is_duty_of r) (duties w h) in
    let lines = map (duty_line (λ q. filter (is_change_of q) all)) rows in (
      lines,
      sym (query-answer w h (query.Duties r))
          ∙ ap (λ b. if b then answered.Duties lines else answered.Refused why.UnknownRelease)
          (is_found w h r ∙ ap (λ o. is_some o) known),
      are_lines all rows,
    )

pub changes_told : (w : Readings) (h : List Command) (q : ℕ) (d : ℕ × Owed)
    → duty_at w h q ≡ Some d
    → let t = tables w h in queried w h (query.Changes q)
    ≡ answered.Changes (filter (is_change_of q) t.changes)
changes_told w h q d known =
    let rows = filter (is_change_of q) (all_changes w h) in
    sym (query-answer w h (query.Changes q))
    ∙ ap (λ b. if b then answered.Changes rows else answered.Refused why.UnknownDuty)
    (duty_known w h q ∙ ap (λ o. is_some o) known)

-- ---- what ended

abbrev weight : Bool → ℕ
weight b = cond b 1 0

abbrev ended_row : List ℕ → Standing → ChangeRow
ended_row day s = next_row (record { day = day; word = word.Ended; body = []; last_day = None }) s

module _ (p : ChangeRow → Bool) where
  counts_put : (x : ChangeRow) (xs : List ChangeRow)
      → count_by p (put change_below x xs) ≡ weight (p x) + count_by p xs
  counts_put x [] = sum_by-cons (λ row. cond (p row) 1 0) x []
  counts_put x (y ∷ ys) =
      elim (change_below x y) as (λ b. count_by p (cond b (x ∷ y ∷ ys)
      (y ∷ put change_below x ys)) ≡ weight (p x) + count_by p (y ∷ ys)) [
        | true ↦ sum_by-cons (λ row. cond (p row) 1 0) x (y ∷ ys)
        | false ↦ omega (
          arith,
          sum_by-cons (λ row. cond (p row) 1 0) y (put change_below x ys),
          sum_by-cons (λ row. cond (p row) 1 0) y ys,
          counts_put x ys,
        )
      ]

  -- the rows of waivers that end are all counted
  counts_rows : (day : List ℕ) (all : List Standing) (xs : List ChangeRow)
      → ((s : Standing) → p (ended_row day s) ≡ true)
      → count_by p (put_all change_below (ended_rows day all) xs) ≡ length all + count_by p xs
  counts_rows day [] xs passes = omega arith
  counts_rows day (s ∷ all) xs passes =
      let here : weight (p (ended_row day s)) ≡ weight true = ap weight (passes s) in
      omega (
        arith,
        counts_put (ended_row day s) (put_all change_below (ended_rows day all) xs),
        counts_rows day all xs passes,
        here,
      )

count_all : (xs : List ChangeRow) → count_by (λ row. true) xs ≡ length xs
count_all [] = refl
count_all (x ∷ xs) = omega (arith, sum_by-cons {X = ChangeRow} (λ row. 1) x xs, count_all xs)

closed_count : (b : Bool) (m n : ℕ)
    → refused_or (unless b why.BadDay) (answered.Closed m) ≡ answered.Closed n → m ≡ n
closed_count true m n e = cc
closed_count false m n e = absurd cc

pub ended_told : (w : Readings) (h : List Command) (day : List ℕ) (n : ℕ)
    → answer w h (CloseDay day) ≡ answered.Closed n
    → let before = tables w h in let after = tables w (CloseDay day ∷ h) in
    (length after.changes ≡ n + length before.changes)
    × (length (filter is_ended after.changes) ≡ n + length (filter is_ended before.changes))
ended_told w h day n told =
    let old = all_changes w h in
    let new = all_changes w (CloseDay day ∷ h) in
    let all = ended_found (tables w h) day in
    let many : length all ≡ n = ended-count w h day
    ∙ closed_count (is_day day) (closing w h day).ended n told in
    let counted = λ (p : ChangeRow → Bool) (passes : (s : Standing) → p (ended_row day s) ≡ true).
    ap (count_by p) (ended-changes w h day) ∙ counts_rows p day all old passes
    ∙ ap (λ m. m + count_by p old) many in (
      sym (count_all new) ∙ counted (λ row. true) (λ s. refl) ∙ ap (λ m. n + m) (count_all old),
      length-filter is_ended new ∙ counted is_ended (λ s. refl)
          ∙ ap (λ m. n + m) (sym (length-filter is_ended old)),
    )

-- ---- texts of a bill

pub add_new : (before : List TextOf) (text : TextOf)
    → list_any (λ other. is_same_text other text) before ≡ false
    → first_uses (before ++ (text ∷ [])) ≡ first_uses before ++ (text ∷ [])
add_new [] text none = refl
add_new (b ∷ before) text none =
    let here = or_left (is_same_text b text)
    (list_any (λ other. is_same_text other text) before) none in
    let later = or_right (is_same_text b text)
    (list_any (λ other. is_same_text other text) before) none in
    let keeps : List TextOf → List TextOf = filter (λ other. not (is_same_text b other)) in
    ap (λ texts. b ∷ keeps texts) (add_new before text later)
    ∙ ap (λ texts. b ∷ texts)
    (filter-append (λ other. not (is_same_text b other)) (first_uses before) (text ∷ [])
    ∙ ap (λ c. keeps (first_uses before) ++ cond (not c) (text ∷ []) []) here)

-- one more text, by whether the first one or a later one is the same
more_again : (b text : TextOf) (before : List TextOf) (here later : Bool)
    → is_same_text b text ≡ here → list_any (λ other. is_same_text other text) before ≡ later
    → (here || later) ≡ true
    → (later ≡ true → first_uses (before ++ (text ∷ [])) ≡ first_uses before)
    → first_uses (b ∷ (before ++ (text ∷ []))) ≡ first_uses (b ∷ before)
more_again b text before here true here_is later_is either rest =
    ap (λ texts. b ∷ filter (λ other. not (is_same_text b other)) texts) (rest refl)
more_again b text before true false here_is later_is either rest =
    let keeps : List TextOf → List TextOf = filter (λ other. not (is_same_text b other)) in
    ap (λ texts. b ∷ keeps texts) (add_new before text later_is)
    ∙ ap (λ texts. b ∷ texts)
    (filter-append (λ other. not (is_same_text b other)) (first_uses before) (text ∷ [])
    ∙ ap (λ c. keeps (first_uses before) ++ cond (not c) (text ∷ []) []) here_is
    ∙ append-nil (keeps (first_uses before)))
more_again b text before false false here_is later_is either rest = absurd cc

pub add_again : (before : List TextOf) (text : TextOf)
    → list_any (λ other. is_same_text other text) before ≡ true
    → first_uses (before ++ (text ∷ [])) ≡ first_uses before
add_again [] text some = absurd cc
add_again (b ∷ before) text some =
    more_again b text before (is_same_text b text)
    (list_any (λ other. is_same_text other text) before) refl refl some
    (λ is. add_again before text is)
