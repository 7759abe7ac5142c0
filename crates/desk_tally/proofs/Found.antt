-- What is counted at the place of a release are its duties.
use Rattle.std.proofs.Common.{◌≡◌, ◌≢◌, ℕ, ◌+◌, Bool, true, false, cond, List, [], ◌∷◌, length, map}
use Rattle.std.proofs.Common.{Option, Some, None, refl, sym, ap, ◌∙◌, arith, inl, inr}
use Rattle.std.specs.Prelude.{count_by, filter, ◌&&◌, ◌==◌, unwrap_or}
use Rattle.std.specs.Str.{bytes_eq}
use Rattle.std.proofs.lemmas.Bool.Decides.{nat_tests}
use Rattle.desk_model.specs.Keys.{is_duty_of}
use Rattle.desk_model.specs.Queries.{totals_of}
use Rattle.desk_model.specs.States.{is_open, is_met, is_waived, is_withdrawn}
use Rattle.desk_model.specs.Tables.{Tables}
use Rattle.desk_model.specs.declared.row.DutyRow.{DutyRow}
use Rattle.desk_model.specs.declared.row.ReleaseRow.{ReleaseRow}
use Rattle.desk_model.specs.declared.state.DutyState.{DutyState}
use Rattle.desk_tally.specs.Numbers.{one_if}
use Rattle.desk_tally.specs.Stands.{is_of, is_in, totals_at}
use Rattle.desk_tally.specs.Kept.{IsKept, ArePlaces, place_found, stand_of}
use Rattle.desk_tally.specs.declared.stand.Stand.{Stand}
use Rattle.desk_tally.proofs.Counts.{count-cons, same_totals}
use Rattle.desk_base.proofs.Texts.{text_tells}

-- a duty has the place of a release exactly if it is a duty of that release
same_place : (releases : List ReleaseRow) → ArePlaces releases → (name other : List ℕ) (place : ℕ)
    → place_found releases name ≡ Some place
    → (unwrap_or (place_found releases other) 0 == place) ≡ bytes_eq other name
same_place releases places name other place found =
    elim (text_tells other name) [
      | inl same ↦ here same.0 (ap (λ n. unwrap_or (place_found releases n) 0) same.1
          ∙ ap (λ o. unwrap_or o 0) found)
      | inr differ ↦ elsewhere (place_found releases other) refl differ.0 differ.1
    ]
  where
    here : bytes_eq other name ≡ true → unwrap_or (place_found releases other) 0 ≡ place
        → (unwrap_or (place_found releases other) 0 == place) ≡ bytes_eq other name
    here holds at = let e : (unwrap_or (place_found releases other) 0 == place) ≡ true =
        grind (arith, nat_tests) in e ∙ sym holds

    not_same : (q : ℕ) → q ≢ place → (q == place) ≡ false
    not_same q differ = grind (arith, nat_tests)

    elsewhere : (o : Option ℕ) → place_found releases other ≡ o → bytes_eq other name ≡ false
        → other ≢ name → (unwrap_or o 0 == place) ≡ bytes_eq other name
    elsewhere None at fails differ = not_same 0
        (λ e. absurd (omega (arith, e, (places.within name place found).0))) ∙ sym fails
    elsewhere (Some q) at fails differ = not_same q
        (λ e. differ (places.apart other name place (at ∙ ap Some e) found)) ∙ sym fails

-- the count by place and state, and the count among the release's duties
count-found : (releases : List ReleaseRow) (name : List ℕ) (place : ℕ)
    → ((other : List ℕ) → (unwrap_or (place_found releases other) 0 == place) ≡ bytes_eq other name)
    → (test : DutyState → Bool) (rows : List DutyRow)
    → count_by (is_in place test) (map (stand_of releases) rows)
    ≡ count_by (λ row. test row.state) (filter (is_duty_of name) rows)
count-found releases name place same test [] = refl
count-found releases name place same test (row ∷ rows) =
    let stand : Stand = stand_of releases row in
    let rest = count-found releases name place same test rows in
    let first : one_if (is_in place test stand) ≡ one_if (bytes_eq row.release name
    && test row.state) = ap (λ b. one_if (b && test row.state)) (same row.release) in
    count-cons (is_in place test) stand (map (stand_of releases) rows)
    ∙ (ap (λ k. k + count_by (is_in place test) (map (stand_of releases) rows)) first
    ∙ either rest (bytes_eq row.release name))
  where
    either : count_by (is_in place test) (map (stand_of releases) rows)
        ≡ count_by (λ (d : DutyRow). test d.state) (filter (is_duty_of name) rows) → (b : Bool)
        → one_if (b && test row.state) + count_by (is_in place test) (map (stand_of releases) rows)
        ≡ count_by (λ (d : DutyRow). test d.state)
        (cond b (row ∷ filter (is_duty_of name) rows) (filter (is_duty_of name) rows))
    either rest true = ap (λ k. one_if (test row.state) + k) rest
        ∙ sym (count-cons (λ (d : DutyRow). test d.state) row (filter (is_duty_of name) rows))
    either rest false = omega (arith, rest)

raised-found : (releases : List ReleaseRow) (name : List ℕ) (place : ℕ)
    → ((other : List ℕ) → (unwrap_or (place_found releases other) 0 == place) ≡ bytes_eq other name)
    → (rows : List DutyRow)
    → count_by (is_of place) (map (stand_of releases) rows) ≡ length (filter (is_duty_of name) rows)
raised-found releases name place same [] = refl
raised-found releases name place same (row ∷ rows) =
    let stand : Stand = stand_of releases row in
    let rest = raised-found releases name place same rows in
    count-cons (is_of place) stand (map (stand_of releases) rows)
    ∙ (ap (λ b. one_if b + count_by (is_of place) (map (stand_of releases) rows)) (same row.release)
    ∙ either rest (bytes_eq row.release name))
  where
    either : count_by (is_of place) (map (stand_of releases) rows)
        ≡ length (filter (is_duty_of name) rows) → (b : Bool)
        → one_if b + count_by (is_of place) (map (stand_of releases) rows)
        ≡ length (cond b (row ∷ filter (is_duty_of name) rows) (filter (is_duty_of name) rows))
    either rest true = omega (arith, rest)
    either rest false = omega (arith, rest)

pub totals-found : (count : ℕ) (all : List Stand) (t : Tables) (name : List ℕ) (place : ℕ)
    → IsKept count all t → place_found t.releases name ≡ Some place
    → totals_at place all ≡ totals_of (filter (is_duty_of name) t.duty)
totals-found count all t name place kept found =
    ap (totals_at place) kept.stands
    ∙ same_totals (totals_at place (map (stand_of t.releases) t.duty))
    (totals_of (filter (is_duty_of name) t.duty))
    (raised-found t.releases name place same t.duty)
    (count-found t.releases name place same is_open t.duty)
    (count-found t.releases name place same is_met t.duty)
    (count-found t.releases name place same is_waived t.duty)
    (count-found t.releases name place same is_withdrawn t.duty)
  where
    same : (other : List ℕ) → (unwrap_or (place_found t.releases other) 0 == place)
        ≡ bytes_eq other name
    same other = same_place t.releases kept.places name other place found
