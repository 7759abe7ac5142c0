-- The answers to queries, from tables.
use Rattle.std.proofs.Common.{◌≡◌, ℕ, ◌+◌, ◌≤◌, Bool, true, false, List, [], ◌∷◌, Some}
use Rattle.std.proofs.Common.{Option, None, length, map, refl, sym, ap, ◌∙◌, arith}
use Rattle.std.specs.Prelude.{if◌then◌else◌, filter, is_some, cond}
use Rattle.std.specs.List.{enumerate_from, flat_map}
use Rattle.std.specs.Option.{option_map_or}
use Rattle.std.proofs.lemmas.Bool.Decides.{nat_tests}
use Rattle.desk_model.specs.Readings.{Readings}
use Rattle.std.specs.List.{list_any}
use Rattle.std.specs.Str.{bytes_eq}
use Rattle.desk_model.specs.Keys.{is_change_of, is_duty_of}
use Rattle.desk_model.specs.History.{form_of, forms_in, in_force}
use Rattle.desk_model.specs.Conclusions.{adoptions}
use Rattle.desk_model.specs.Listings.{cheapest_answer, term_cost}
use Rattle.desk_model.specs.declared.row.Owed.{Owed}
use Rattle.desk_model.specs.Raised.{raised, chosen_in, shipped}
use Rattle.desk_model.specs.Moves.{duties, duty_row, changes, place, all_changes}
use Rattle.desk_model.specs.Tables.{Tables, tables, release_row, release_rows}
use Rattle.desk_model.specs.Answers.{conclusion, release_state}
use Rattle.desk_model.specs.Bills.{bill_answer, bill_of}
use Rattle.desk_model.specs.Gaps.{gaps_answer, gaps_of}
use Rattle.desk_model.specs.Queries.{queried, listing, sources, duty_line, is_open_of, open_duties}
use Rattle.desk_model.specs.Queries.{open_duty, package_line, duties_of, totals_of, unready_duties}
use Rattle.desk_model.specs.Ready.{ready_answer}
use Rattle.desk_model.specs.Moves.{duty_at}
use Rattle.desk_history.specs.FromTables.{queried_from, choice_found, duty_found, line_found}
use Rattle.desk_history.specs.FromTables.{open_found, unready_found}
use Rattle.desk_history.proofs.Lookups.{is_found, release_found-tables, rules-found, state-found}
use Rattle.desk_history.proofs.Ready.{holds_back, unready-found, unready-once}
use Rattle.desk_history.proofs.Chosen.{choice-found}
use Rattle.desk_history.proofs.Obstacles.{wanting_told}
use Rattle.desk_history.proofs.Moving.{changes-found, in_range, duty-found, known_at}
use Rattle.desk_history.proofs.Opening.{is_some-map}
use Rattle.desk_model.specs.declared.row.DutyRow.{DutyRow}
use Rattle.desk_model.specs.declared.row.PackageRow.{PackageRow}
use Rattle.desk_model.specs.declared.row.ReleaseRow.{ReleaseRow}
use Rattle.desk_model.specs.declared.command.Answer.{Answer}
use Rattle.desk_model.specs.declared.row.ChangeRow.{ChangeRow}
use Rattle.desk_model.specs.declared.refusal.Refusal.TheVariants as why
use Rattle.desk_model.specs.declared.command.Answer.TheVariants as answered
use Rattle.desk_model.specs.declared.command.Query.{Query}
use Rattle.desk_model.specs.declared.command.Query.TheVariants as query
use Rattle.desk_model.specs.declared.command.Command.{Command}

in_all : (n l k : ℕ) → 1 ≤ n → n + (k + 1) ≡ 1 + l → in_range 1 n l ≡ true
in_all n l k le e = grind (arith, nat_tests)

-- the lines of some duties, each with its changes
told_from : {A : Type 0} (tell : List ChangeRow → DutyRow → A) (p : DutyRow → Bool) (w : Readings)
    (h : List Command) (n : ℕ) (xs : List Owed) → 1 ≤ n → n + length xs ≡ 1 + length (raised w h)
    → map (λ row. tell (filter (is_change_of row.number) (all_changes w h)) row)
    (filter p (map (λ (d : ℕ × Owed). duty_row (place w h d.0) d) (enumerate_from n xs)))
    ≡ map (λ row. tell (changes w h row.number) row)
    (filter p (map (λ (d : ℕ × Owed). duty_row (place w h d.0) d) (enumerate_from n xs)))
told_from tell p w h n [] le e = refl
told_from {A} tell p w h n (x ∷ xs) le e =
    let row : DutyRow = duty_row (place w h n) (n, x) in
    let rest : List DutyRow = filter p
    (map (λ (d : ℕ × Owed). duty_row (place w h d.0) d) (enumerate_from (n + 1) xs)) in
    let found : DutyRow → A = λ row. tell (filter (is_change_of row.number) (all_changes w h))
    row in
    let told : DutyRow → A = λ row. tell (changes w h row.number) row in
    let here : in_range 1 n (length (raised w h)) ≡ true =
    in_all n (length (raised w h)) (length xs) le (omega arith) in
    let one : found row ≡ told row = ap (λ rows. tell rows row) (changes-found w h n here) in
    elim (p row) as (λ b. map found (cond b (row ∷ rest) rest)
    ≡ map told (cond b (row ∷ rest) rest)) [
      | true ↦ rw one (ap (λ xs. told row ∷ xs)
          (told_from tell p w h (n + 1) xs (omega arith) (omega arith)))
      | false ↦ told_from tell p w h (n + 1) xs (omega arith) (omega arith)
    ]

lines-found : (w : Readings) (h : List Command) (r : List ℕ)
    → map (duty_line (λ q. filter (is_change_of q) (all_changes w h))) (duties_of w h r)
    ≡ map (duty_line (changes w h)) (duties_of w h r)
lines-found w h r = told_from (λ rows row. duty_line (λ q. rows) row) (is_duty_of r) w h 1
    (raised w h) (omega arith) refl

-- the open duties of a release
open-found : (w : Readings) (h : List Command) (row : ReleaseRow)
    → open_found (tables w h) row ≡ open_duties (changes w h) (duties w h) row
open-found w h row = told_from (λ rows duty. open_duty (λ q. rows) duty) (is_open_of row.name) w h 1
    (raised w h) (omega arith) refl

pub duty_known : (w : Readings) (h : List Command) (q : ℕ)
    → is_some (duty_found (tables w h) q) ≡ is_some (duty_at w h q)
duty_known w h q = ap is_some (duty-found w h q)
    ∙ is_some-map (λ d. duty_row (place w h d.0) d) (duty_at w h q)

where_known : (known : Bool) (rows told : List ChangeRow) → (known ≡ true → rows ≡ told)
    → (if known then answered.Changes rows else answered.Refused why.UnknownDuty)
    ≡ (if known then answered.Changes told else answered.Refused why.UnknownDuty)
where_known true rows told same = ap answered.Changes (same refl)
where_known false rows told same = refl

release_told : (w : Readings) (h : List Command) (r : List ℕ)
    → queried_from w (tables w h) (query.Release r) ≡ queried w h (query.Release r)
release_told w h r =
    let told : ReleaseRow → (PackageRow → List (List ℕ)) → Answer =
    λ row chosen. answered.Release row
    (map (package_line (conclusion w h) chosen) (shipped w h r)) in
    ap (λ o. option_map_or (λ row. told row (choice_found (tables w h) r)) o
    (answered.Refused why.UnknownRelease)) (release_found-tables w h r)
    ∙ (ap (λ chosen. option_map_or (λ row. told row chosen)
    (if is_some (form_of h r) then Some (release_row h r) else None)
    (answered.Refused why.UnknownRelease)) (choice-found w h r)
    ∙ (elim (is_some (form_of h r)) as
    (λ b. option_map_or (λ row. told row (chosen_in w h r))
    (if b then Some (release_row h r) else None) (answered.Refused why.UnknownRelease)
    ≡ (if b then told (release_row h r) (chosen_in w h r) else answered.Refused why.UnknownRelease))
    [ true ↦ refl | false ↦ refl ]))

bill_told : (w : Readings) (h : List Command) (r : List ℕ)
    → queried_from w (tables w h) (query.Bill r) ≡ queried w h (query.Bill r)
bill_told w h r =
    let t : Tables = tables w h in
    let told : ReleaseRow → Answer =
    λ row. bill_answer (bill_of w t.catalogue t.extracted t.frozen (shipped w h r) row) row.state in
    ap (λ o. option_map_or told o (answered.Refused why.UnknownRelease))
    (release_found-tables w h r)
    ∙ (elim (is_some (form_of h r)) as
    (λ b. option_map_or told (if b then Some (release_row h r) else None)
    (answered.Refused why.UnknownRelease)
    ≡ (if b then told (release_row h r) else answered.Refused why.UnknownRelease))
    [ true ↦ refl | false ↦ refl ])

gaps_told : (w : Readings) (h : List Command) (r : List ℕ)
    → queried_from w (tables w h) (query.Gaps r) ≡ queried w h (query.Gaps r)
gaps_told w h r =
    let t : Tables = tables w h in
    let told : ReleaseRow → (PackageRow → List (List ℕ)) → Answer =
    λ row chosen. gaps_answer (gaps_of w (sources w h chosen row)) row.state in
    let found : ReleaseRow → Answer = λ row. told row (choice_found t row.name) in
    ap (λ o. option_map_or found o (answered.Refused why.UnknownRelease))
    (release_found-tables w h r)
    ∙ (elim (is_some (form_of h r)) as
    (λ b. option_map_or found (if b then Some (release_row h r) else None)
    (answered.Refused why.UnknownRelease)
    ≡ (if b then told (release_row h r) (choice_found t r)
    else answered.Refused why.UnknownRelease)) [ true ↦ refl | false ↦ refl ]
    ∙ ap (λ chosen. if is_some (form_of h r) then told (release_row h r) chosen
    else answered.Refused why.UnknownRelease) (choice-found w h r))

-- the lines of the duties that keep a release back
unready-lines : (w : Readings) (h : List Command) (r : List ℕ) (day : Option (List ℕ))
    → map (line_found (tables w h)) (unready_duties w h r day)
    ≡ map (duty_line (changes w h)) (unready_duties w h r day)
unready-lines w h r day =
    ap (map (line_found (tables w h))) (unready-once w h r day)
    ∙ (told_from (λ rows row. duty_line (λ q. rows) row) (holds_back w h r day) w h 1
    (raised w h) (omega arith) refl
    ∙ ap (map (duty_line (changes w h))) (sym (unready-once w h r day)))

ready_told : (w : Readings) (h : List Command) (r : List ℕ) (day : Option (List ℕ))
    → queried_from w (tables w h) (query.Ready r day) ≡ queried w h (query.Ready r day)
ready_told w h r day =
    ap (λ state. ready_answer day state
    (map (line_found (tables w h)) (unready_found (tables w h) r day))) (state-found w h r)
    ∙ (ap (λ rows. ready_answer day (release_state h r) (map (line_found (tables w h)) rows))
    (unready-found w h r day)
    ∙ ap (ready_answer day (release_state h r)) (unready-lines w h r day))

pub query-answer : (w : Readings) (h : List Command) (q : Query)
    → queried_from w (tables w h) q ≡ queried w h q
query-answer w h (query.Duties r) =
    ap (λ b. if b then answered.Duties
    (map (duty_line (λ q. filter (is_change_of q) (all_changes w h))) (duties_of w h r))
    else answered.Refused why.UnknownRelease) (is_found w h r)
    ∙ ap (λ rows. if is_some (form_of h r) then answered.Duties rows
    else answered.Refused why.UnknownRelease) (lines-found w h r)
query-answer w h (query.Totals r) =
    ap (λ b. if b then answered.Totals (totals_of (duties_of w h r))
    else answered.Refused why.UnknownRelease) (is_found w h r)
query-answer w h (query.Changes q) =
    ap (λ b. if b then answered.Changes (filter (is_change_of q) (all_changes w h))
    else answered.Refused why.UnknownDuty) (duty_known w h q)
    ∙ where_known (is_some (duty_at w h q)) (filter (is_change_of q) (all_changes w h))
    (changes w h q)
    (λ known. changes-found w h q (sym (known_at w h q) ∙ known))
query-answer w h (query.Findings d) = refl
query-answer w h (query.Release r) = release_told w h r
query-answer w h (query.Bill r) = bill_told w h r
query-answer w h (query.Alternatives d p) = refl
query-answer w h (query.Cheapest d p form) =
    ap (λ rules. cheapest_answer w (list_any (bytes_eq form) (forms_in (in_force w h)))
    (term_cost w (adoptions w h) rules form) (listing w h d p)) (rules-found w h)
query-answer w h query.Releases = refl
query-answer w h query.Documents = refl
query-answer w h query.OpenDuties = λ i. answered.OpenDuties
    (flat_map (λ row. open-found w h row i) (release_rows h))
query-answer w h (query.Wanting r) = wanting_told w h r
query-answer w h (query.Ready r day) = ready_told w h r day
query-answer w h (query.Gaps r) = gaps_told w h r

pub query_at_history : (w : Readings) (h : List Command) (q : Query) (t : Tables) → t ≡ tables w h
    → queried_from w t q ≡ queried w h q
query_at_history w h q t e = ap (λ u. queried_from w u q) e ∙ query-answer w h q
