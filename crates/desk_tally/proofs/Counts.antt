-- Numbers of duties, after a step.
use Rattle.std.proofs.Common.{◌≡◌, ◌≢◌, ℕ, zero, suc, ◌+◌, ◌-◌, ◌*◌, ◌<◌, ◌≤◌, Bool, true, false}
use Rattle.std.proofs.Common.{cond, List, [], ◌∷◌, ◌++◌, length, get_or, Some, None, refl, sym, ap}
use Rattle.std.proofs.Common.{◌∙◌, arith, inl, inr, subst, replicate, drop, drop-cons}
use Rattle.std.specs.Prelude.{count_by, ◌&&◌, ◌==◌, ◌⊎◌, slice_get, slice_set}
use Rattle.std.proofs.lemmas.List.Sums.{sum_by-cons, sum_by-append, count_by-le-length}
use Rattle.std.proofs.lemmas.List.Folds.{sum_by-replicate, list_all-append}
use Rattle.std.proofs.lemmas.Bool.Decides.{nat_tests}
use Rattle.std.proofs.lemmas.Bool.{and_from}
use Rattle.desk_model.specs.States.{is_open, is_met, is_waived, is_withdrawn}
use Rattle.desk_model.specs.declared.state.DutyState.{DutyState}
use Rattle.desk_model.specs.declared.state.DutyState.TheVariants.{IsOpen, Met, Waived, Withdrawn}
use Rattle.desk_model.specs.declared.command.Totals.{Totals}
use Rattle.desk_tally.specs.Numbers.{number_of, one_if}
use Rattle.desk_tally.specs.Totals.{totals_in}
use Rattle.desk_tally.specs.Stands.{is_of, is_in, totals_at, AreTallied, is_within, are_placed}
use Rattle.desk_tally.specs.Stands.{are_duties, open_at, at_state, shifted}
use Rattle.desk_tally.specs.declared.stand.Shift.{Shift}
use Rattle.desk_tally.specs.declared.stand.Stand.{Stand}
use Rattle.desk_tally.specs.declared.tally.Tally.{Tally}
use Rattle.desk_tally.proofs.Bools.{within_low, within_high, within_from}
use Rattle.desk_base.proofs.Bools.{and_left, and_right}

pub count-cons : {A : Type 0} (test : A → Bool) (x : A) (xs : List A)
    → count_by test (x ∷ xs) ≡ one_if (test x) + count_by test xs
count-cons test x xs = sum_by-cons (λ y. cond (test y) 1 0) x xs

pub same_totals : (x y : Totals) → x.raised ≡ y.raised → x.still_open ≡ y.still_open → x.met ≡ y.met
    → x.waived ≡ y.waived → x.withdrawn ≡ y.withdrawn → x ≡ y
same_totals x y a b c d e = λ i.
    record { raised = a i; still_open = b i; met = c i; waived = d i; withdrawn = e i }

-- one duty is put into a state
count-state : (test : Stand → Bool) (i : ℕ) (state : DutyState) (all : List Stand) (stand : Stand)
    → slice_get all i ≡ Some stand
    → count_by test (at_state i state all) + one_if (test stand)
    ≡ count_by test all + one_if (test (record stand { state = state }))
count-state test i state [] stand at = cc
count-state test zero state (x ∷ xs) stand at =
    let is : x ≡ stand = cc in
    let after : Stand = record x { state = state } in
    let here : count_by test (after ∷ xs) + one_if (test x) ≡ count_by test (x
    ∷ xs) + one_if (test after) =
    omega (arith, count-cons test after xs, count-cons test x xs) in
    subst (λ (y : Stand). count_by test (at_state zero state (x ∷ xs)) + one_if (test y)
    ≡ count_by test (x ∷ xs) + one_if (test (record y { state = state }))) is here
count-state test (suc i) state (x ∷ xs) stand at =
    omega (
      arith,
      count-cons test x (at_state i state xs),
      count-cons test x xs,
      count-state test i state xs stand at,
    )

-- a duty with this place and state is counted
counted_one : (test : Stand → Bool) (i : ℕ) (all : List Stand) (stand : Stand)
    → slice_get all i ≡ Some stand → test stand ≡ true → 1 ≤ count_by test all
counted_one test i [] stand at passes = cc
counted_one test zero (x ∷ xs) stand at passes =
    let is : x ≡ stand = cc in
    let here : one_if (test x) ≡ 1 = ap (λ (y : Stand). one_if (test y)) is ∙ ap one_if passes in
    omega (arith, count-cons test x xs, here)
counted_one test (suc i) (x ∷ xs) stand at passes = omega
    (arith, count-cons test x xs, counted_one test i xs stand at passes)

none-of : (n place : ℕ) (test : Stand → Bool) (all : List Stand)
    → ((stand : Stand) → is_of place stand ≡ false → test stand ≡ false) → are_placed n all ≡ true
    → n < place → count_by test all ≡ 0
none-of n place test [] of placed over = refl
none-of n place test (x ∷ xs) of placed over =
    let low : x.place ≤ n = within_high n x.place
    (and_left (is_within n x.place) (are_placed n xs) placed) in
    let other : (x.place == place) ≡ false = grind (arith, nat_tests) in
    let here : one_if (test x) ≡ 0 = ap one_if (of x other) in
    omega (
      arith,
      count-cons test x xs,
      here,
      none-of n place test xs of (and_right (is_within n x.place) (are_placed n xs) placed) over,
    )

in_other : (place : ℕ) (test : DutyState → Bool) (stand : Stand) → is_of place stand ≡ false
    → is_in place test stand ≡ false
in_other place test stand e = ap (λ b. b && test stand.state) e

in_same : (place : ℕ) (test : DutyState → Bool) (stand : Stand) → is_of place stand ≡ true
    → is_in place test stand ≡ test stand.state
in_same place test stand e = ap (λ b. b && test stand.state) e

abbrev none : Totals
none = record { raised = 0; still_open = 0; met = 0; waived = 0; withdrawn = 0 }

-- no duty is of a release after the last
totals-beyond : (n place : ℕ) (all : List Stand) → are_placed n all ≡ true → n < place
    → totals_at place all ≡ none
totals-beyond n place all placed over =
    same_totals (totals_at place all) none
    (none-of n place (is_of place) all (λ stand e. e) placed over)
    (none-of n place (is_in place is_open) all (in_other place is_open) placed over)
    (none-of n place (is_in place is_met) all (in_other place is_met) placed over)
    (none-of n place (is_in place is_waived) all (in_other place is_waived) placed over)
    (none-of n place (is_in place is_withdrawn) all (in_other place is_withdrawn) placed over)

-- more duties
count-more : (test : Stand → Bool) (all : List Stand) (n : ℕ) (stand : Stand)
    → count_by test (all ++ replicate n stand) ≡ count_by test all + n * one_if (test stand)
count-more test all n stand =
    sum_by-append (λ y. cond (test y) 1 0) all (replicate n stand)
    ∙ ap (λ k. count_by test all + k) (sum_by-replicate (λ y. cond (test y) 1 0) n stand)

-- what is at an index of a list that was changed at another index
pub set_cases : {A : Type 0} (xs : List A) (i j : ℕ) (y z : A)
    → slice_get (slice_set xs i y) j ≡ Some z
    → ((i ≡ j) × (y ≡ z)) ⊎ ((i ≢ j) × (slice_get xs j ≡ Some z))
set_cases [] i j y z e = cc
set_cases (x ∷ xs) zero zero y z e = inl (refl, cc)
set_cases (x ∷ xs) zero (suc j) y z e = inr (let differ : zero ≢ suc j =
    λ f. absurd (omega (arith, f)) in (differ, e))
set_cases (x ∷ xs) (suc i) zero y z e = inr (let differ : suc i ≢ zero =
    λ f. absurd (omega (arith, f)) in (differ, e))
set_cases (x ∷ xs) (suc i) (suc j) y z e =
    elim (set_cases xs i j y z e) [
      | inl same ↦ inl (ap suc same.0, same.1)
      | inr other ↦ inr (let differ : suc i ≢ suc j =
          λ f. other.0 (let g : i ≡ j = omega (arith, f) in g) in (differ, other.1))
    ]

-- what is at an index of a list to which an item was added
pub push_cases : {A : Type 0} (xs : List A) (i : ℕ) (y z : A) → slice_get (xs ++ y ∷ []) i ≡ Some z
    → (slice_get xs i ≡ Some z) ⊎ ((i ≡ length xs) × (y ≡ z))
push_cases [] zero y z e = inr (refl, cc)
push_cases [] (suc i) y z e = cc
push_cases (x ∷ xs) zero y z e = inl e
push_cases (x ∷ xs) (suc i) y z e =
    elim (push_cases xs i y z e) [
      | inl before ↦ inl before
      | inr last ↦ inr (ap suc last.0, last.1)
    ]

-- a release is opened
pub tallied-open : (all : List Stand) (tallies : List Tally) (tally : Tally)
    → are_placed (length tallies) all ≡ true → AreTallied all tallies → totals_in tally ≡ none
    → AreTallied all (tallies ++ tally ∷ [])
tallied-open all tallies tally placed old fresh i x at =
    elim (push_cases tallies i tally x at) [
      | inl before ↦ old i x before
      | inr last ↦
          ap totals_in (sym last.1) ∙ (fresh
          ∙ sym (totals-beyond (length tallies) (i + 1) all placed (omega (arith, last.0))))
    ]

pub placed-open : (n : ℕ) (all : List Stand) → are_placed n all ≡ true
    → are_placed (n + 1) all ≡ true
placed-open n [] e = refl
placed-open n (x ∷ xs) e =
    let here = and_left (is_within n x.place) (are_placed n xs) e in
    and_from (is_within (n + 1) x.place) (are_placed (n + 1) xs)
    (within_from (n + 1) x.place (within_low n x.place here)
    (omega (arith, within_high n x.place here)))
    (placed-open n xs (and_right (is_within n x.place) (are_placed n xs) e))

-- duties are raised
of_open : (place : ℕ) → is_of place (open_at place) ≡ true
of_open place = grind (arith, nat_tests)

of_other : (place other : ℕ) → other ≢ place → is_of place (open_at other) ≡ false
of_other place other differ = grind (arith, nat_tests)

times_one : (n : ℕ) (b : Bool) → b ≡ true → n * one_if b ≡ n
times_one n b e = let one : one_if b ≡ 1 = ap one_if e in rw one (omega arith)

times_none : (n : ℕ) (b : Bool) → b ≡ false → n * one_if b ≡ 0
times_none n b e = let nothing : one_if b ≡ 0 = ap one_if e in rw nothing (omega arith)

pub record HasRaised (n : ℕ) (old new : Tally) : Type 0 where
  pub raised : new.raised ≡ old.raised + n
  pub still_open : new.still_open ≡ old.still_open + n
  pub met : new.met ≡ old.met
  pub waived : new.waived ≡ old.waived
  pub withdrawn : new.withdrawn ≡ old.withdrawn

totals-raised : (all : List Stand) (place n : ℕ) (old new : Tally)
    → totals_in old ≡ totals_at place all → HasRaised n old new
    → totals_in new ≡ totals_at place (all ++ replicate n (open_at place))
totals-raised all place n old new was has =
    same_totals (totals_in new) (totals_at place (all ++ replicate n (open_at place)))
    (has.raised ∙ (ap (λ (t : Totals). t.raised + n) was
    ∙ sym (count-more (is_of place) all n (open_at place)
    ∙ ap (λ k. count_by (is_of place) all + k)
    (times_one n (is_of place (open_at place)) (of_open place)))))
    (has.still_open ∙ (ap (λ (t : Totals). t.still_open + n) was
    ∙ sym (count-more (is_in place is_open) all n (open_at place)
    ∙ ap (λ k. count_by (is_in place is_open) all + k)
    (times_one n (is_in place is_open (open_at place))
    (in_same place is_open (open_at place) (of_open place))))))
    (has.met ∙ (ap (λ (t : Totals). t.met) was ∙ stays is_met refl))
    (has.waived ∙ (ap (λ (t : Totals). t.waived) was ∙ stays is_waived refl))
    (has.withdrawn ∙ (ap (λ (t : Totals). t.withdrawn) was ∙ stays is_withdrawn refl))
  where
    stays : (test : DutyState → Bool) → test IsOpen ≡ false
        → count_by (is_in place test) all
        ≡ count_by (is_in place test) (all ++ replicate n (open_at place))
    stays test fails =
        let zero_more : n * one_if (is_in place test (open_at place)) ≡ 0 =
        times_none n (is_in place test (open_at place))
        (in_same place test (open_at place) (of_open place) ∙ fails) in
        omega (arith, count-more (is_in place test) all n (open_at place), zero_more)

totals-elsewhere : (all : List Stand) (place other n : ℕ) → other ≢ place
    → totals_at place all ≡ totals_at place (all ++ replicate n (open_at other))
totals-elsewhere all place other n differ =
    same_totals (totals_at place all) (totals_at place (all ++ replicate n (open_at other)))
    (stays (is_of place) (of_other place other differ))
    (stays (is_in place is_open) (in_other place is_open (open_at other)
    (of_other place other differ)))
    (stays (is_in place is_met) (in_other place is_met (open_at other)
    (of_other place other differ)))
    (stays (is_in place is_waived)
    (in_other place is_waived (open_at other) (of_other place other differ)))
    (stays (is_in place is_withdrawn)
    (in_other place is_withdrawn (open_at other) (of_other place other differ)))
  where
    stays : (test : Stand → Bool) → test (open_at other) ≡ false
        → count_by test all ≡ count_by test (all ++ replicate n (open_at other))
    stays test fails = omega (
      arith,
      count-more test all n (open_at other),
      times_none n (test (open_at other)) fails,
    )

pub tallied-raised : (all : List Stand) (tallies new : List Tally) (i n : ℕ) (old tally : Tally)
    → AreTallied all tallies → slice_get tallies i ≡ Some old → new ≡ slice_set tallies i tally
    → HasRaised n old tally
    → AreTallied (all ++ replicate n (open_at (i + 1))) new
tallied-raised all tallies new i n old tally before at is has j x found =
    elim (set_cases tallies i j tally x (ap (λ xs. slice_get xs j) (sym is) ∙ found)) [
      | inl same ↦
          ap totals_in (sym same.1)
          ∙ (totals-raised all (i + 1) n old tally (before i old at) has
          ∙ ap (λ k. totals_at (k + 1) (all ++ replicate n (open_at (i + 1)))) same.0)
      | inr other ↦ before j x other.1
          ∙ totals-elsewhere all (j + 1) (i + 1) n
          (λ e. other.0 (let g : i ≡ j = omega (arith, e) in g))
    ]

pub placed-raised : (count n place : ℕ) (all : List Stand) → is_within count place ≡ true
    → are_placed count all ≡ true → are_placed count (all ++ replicate n (open_at place)) ≡ true
placed-raised count n place all within placed =
    list_all-append (λ stand. is_within count stand.place) all (replicate n (open_at place))
    ∙ and_from (are_placed count all) (are_placed count (replicate n (open_at place))) placed
    (each n)
  where
    each : (k : ℕ) → are_placed count (replicate k (open_at place)) ≡ true
    each zero = refl
    each (suc k) = and_from (is_within count place) (are_placed count (replicate k (open_at place)))
        within (each k)

-- a release has no more duties than there are in all
pub raised-room : (all : List Stand) (tallies : List Tally) (i : ℕ) (tally : Tally)
    → AreTallied all tallies → slice_get tallies i ≡ Some tally → tally.raised ≤ length all
raised-room all tallies i tally tallied at =
    let is : tally.raised ≡ count_by (is_of (i + 1)) all =
    ap (λ (t : Totals). t.raised) (tallied i tally at) in
    omega (arith, is, count_by-le-length (is_of (i + 1)) all)

-- a duty moves
pub record HasMoved (from to : DutyState) (old new : Tally) : Type 0 where
  pub raised : new.raised ≡ old.raised
  pub still_open : new.still_open + one_if (is_open from) ≡ old.still_open + one_if (is_open to)
  pub met : new.met + one_if (is_met from) ≡ old.met + one_if (is_met to)
  pub waived : new.waived + one_if (is_waived from) ≡ old.waived + one_if (is_waived to)
  pub withdrawn : new.withdrawn + one_if (is_withdrawn from)
      ≡ old.withdrawn + one_if (is_withdrawn to)

totals-moved : (all : List Stand) (i place : ℕ) (stand : Stand) (to : DutyState) (old new : Tally)
    → slice_get all i ≡ Some stand → is_of place stand ≡ true → totals_in old ≡ totals_at place all
    → HasMoved stand.state to old new
    → totals_in new ≡ totals_at place (at_state i to all)
totals-moved all i place stand to old new at of was has =
    same_totals (totals_in new) (totals_at place (at_state i to all))
    (let moved = count-state (is_of place) i to all stand at in
    let o : old.raised ≡ count_by (is_of place) all = ap (λ (t : Totals). t.raised) was in
    omega (arith, moved, o, has.raised))
    (step is_open new.still_open old.still_open (ap (λ (t : Totals). t.still_open) was)
    has.still_open)
    (step is_met new.met old.met (ap (λ (t : Totals). t.met) was) has.met)
    (step is_waived new.waived old.waived (ap (λ (t : Totals). t.waived) was) has.waived)
    (step is_withdrawn new.withdrawn old.withdrawn (ap (λ (t : Totals). t.withdrawn) was)
    has.withdrawn)
  where
    step : (test : DutyState → Bool) (n m : ℕ) → m ≡ count_by (is_in place test) all
        → n + one_if (test stand.state) ≡ m + one_if (test to)
        → n ≡ count_by (is_in place test) (at_state i to all)
    step test n m o e =
        let moved = count-state (is_in place test) i to all stand at in
        let here : one_if (is_in place test stand) ≡ one_if (test stand.state) =
        ap one_if (in_same place test stand of) in
        let there : one_if (is_in place test (record stand { state = to })) ≡ one_if (test to) =
        ap one_if (in_same place test (record stand { state = to }) of) in
        omega (arith, moved, here, there, o, e)

totals-unmoved : (all : List Stand) (i place : ℕ) (stand : Stand) (to : DutyState)
    → slice_get all i ≡ Some stand → is_of place stand ≡ false
    → totals_at place all ≡ totals_at place (at_state i to all)
totals-unmoved all i place stand to at of =
    same_totals (totals_at place all) (totals_at place (at_state i to all))
    (stays (is_of place) of of)
    (stays (is_in place is_open) (in_other place is_open stand of)
    (in_other place is_open (record stand { state = to }) of))
    (stays (is_in place is_met) (in_other place is_met stand of)
    (in_other place is_met (record stand { state = to }) of))
    (stays (is_in place is_waived) (in_other place is_waived stand of)
    (in_other place is_waived (record stand { state = to }) of))
    (stays (is_in place is_withdrawn) (in_other place is_withdrawn stand of)
    (in_other place is_withdrawn (record stand { state = to }) of))
  where
    stays : (test : Stand → Bool) → test stand ≡ false → test (record stand { state = to }) ≡ false
        → count_by test all ≡ count_by test (at_state i to all)
    stays test fails gone =
        let moved = count-state test i to all stand at in
        let here : one_if (test stand) ≡ 0 = ap one_if fails in
        let there : one_if (test (record stand { state = to })) ≡ 0 = ap one_if gone in
        omega (arith, moved, here, there)

pub tallied-moved : (all : List Stand) (tallies new : List Tally) (i k : ℕ) (stand : Stand)
    (to : DutyState) (old tally : Tally) → AreTallied all tallies → slice_get all i ≡ Some stand
    → stand.place ≡ k + 1
    → slice_get tallies k ≡ Some old → new ≡ slice_set tallies k tally
    → HasMoved stand.state to old tally → AreTallied (at_state i to all) new
tallied-moved all tallies new i k stand to old tally before at of had is has j x found =
    elim (set_cases tallies k j tally x (ap (λ xs. slice_get xs j) (sym is) ∙ found)) [
      | inl same ↦
          ap totals_in (sym same.1)
          ∙ (totals-moved all i (k + 1) stand to old tally at
          (let yes : (stand.place == k + 1) ≡ true = grind (arith, nat_tests) in yes)
          (before k old had) has
          ∙ ap (λ n. totals_at (n + 1) (at_state i to all)) same.0)
      | inr other ↦ before j x other.1
          ∙ totals-unmoved all i (j + 1) stand to at (elsewhere stand.place j of other.0)
    ]
  where
    elsewhere : (place j : ℕ) → place ≡ k + 1 → k ≢ j → (place == j + 1) ≡ false
    elsewhere place j e differ = grind (arith, nat_tests)

pub placed-state : (n i : ℕ) (state : DutyState) (all : List Stand)
    → are_placed n (at_state i state all) ≡ are_placed n all
placed-state n i state [] = refl
placed-state n zero state (x ∷ xs) = refl
placed-state n (suc i) state (x ∷ xs) = ap (λ b. is_within n x.place && b)
    (placed-state n i state xs)

pub length-state : (i : ℕ) (state : DutyState) (all : List Stand)
    → length (at_state i state all) ≡ length all
length-state i state [] = refl
length-state zero state (x ∷ xs) = refl
length-state (suc i) state (x ∷ xs) = ap suc (length-state i state xs)

-- the count for a duty's release and state is at least one
pub stands_some : (all : List Stand) (tallies : List Tally) (i k : ℕ) (stand : Stand)
    (tally : Tally) → AreTallied all tallies → slice_get all i ≡ Some stand → stand.place ≡ k + 1
    → slice_get tallies k ≡ Some tally
    → 1 ≤ number_of stand.state (totals_in tally)
stands_some all tallies i k stand tally tallied at of had = some stand.state refl
  where
    here : (stand.place == k + 1) ≡ true
    here = grind (arith, nat_tests)

    one : (test : DutyState → Bool) → test stand.state ≡ true
        → 1 ≤ count_by (is_in (k + 1) test) all
    one test passes = counted_one (is_in (k + 1) test) i all stand at
        (in_same (k + 1) test stand here ∙ passes)

    numbers : totals_in tally ≡ totals_at (k + 1) all
    numbers = tallied k tally had

    some : (state : DutyState) → stand.state ≡ state → 1 ≤ number_of state (totals_in tally)
    some IsOpen e = let c = one is_open (ap is_open e) in
        let n = ap (λ (t : Totals). t.still_open) numbers in omega (arith, c, n)
    some Met e = let c = one is_met (ap is_met e) in let n = ap (λ (t : Totals). t.met) numbers in
        omega (arith, c, n)
    some Waived e = let c = one is_waived (ap is_waived e) in
        let n = ap (λ (t : Totals). t.waived) numbers in omega (arith, c, n)
    some Withdrawn e = let c = one is_withdrawn (ap is_withdrawn e) in
        let n = ap (λ (t : Totals). t.withdrawn) numbers in omega (arith, c, n)

-- the item at an index, as it is read
pub get_some : {A : Type 0} (xs : List A) (i : ℕ) (x : A) → i < length xs → x ≡ get_or xs i x
    → slice_get xs i ≡ Some x
get_some [] i x lt e = absurd (omega (arith, lt))
get_some (y ∷ ys) zero x lt e = ap Some (sym e)
get_some (y ∷ ys) (suc i) x lt e = get_some ys i x (omega (arith, lt)) e

-- the state at an index, as it is written
pub state_set : (i : ℕ) (state : DutyState) (all : List Stand) (stand : Stand)
    → slice_get all i ≡ Some stand
    → slice_set all i (record { place = stand.place; state = state }) ≡ at_state i state all
state_set i state [] stand at = cc
state_set zero state (x ∷ xs) stand at =
    let is : stand ≡ x = cc in
    ap (λ (s : Stand). (let after : Stand = record { place = s.place; state = state } in after)
    ∷ xs) is
state_set (suc i) state (x ∷ xs) stand at = ap (λ (ss : List Stand). x ∷ ss)
    (state_set i state xs stand at)

pub placed_low : (n i : ℕ) (all : List Stand) (stand : Stand) → are_placed n all ≡ true
    → slice_get all i ≡ Some stand → 1 ≤ stand.place
placed_low n i [] stand placed at = cc
placed_low n zero (x ∷ xs) stand placed at =
    let is : x ≡ stand = cc in
    subst (λ (s : Stand). 1 ≤ s.place) is
    (within_low n x.place (and_left (is_within n x.place) (are_placed n xs) placed))
placed_low n (suc i) (x ∷ xs) stand placed at = placed_low n i xs stand
    (and_right (is_within n x.place) (are_placed n xs) placed) at

-- what stands at an index, and that its release has a place
pub placed_at : (n i : ℕ) (all : List Stand) (stand : Stand) → i < length all
    → stand ≡ get_or all i stand → are_placed n all ≡ true
    → (slice_get all i ≡ Some stand) × (stand.place ≡ stand.place - 1 + 1)
placed_at n i all stand lt is placed =
    let at = get_some all i stand lt is in
    let low = placed_low n i all stand placed at in
    (at, omega (arith, low))

-- the duty of one of some shifts
pub duty_at : (count : ℕ) (shifts : List Shift) (k : ℕ) (d : Shift) → are_duties count shifts ≡ true
    → k < length shifts → is_within count (get_or shifts k d).duty ≡ true
duty_at count [] k d within lt = absurd (omega (arith, lt))
duty_at count (shift ∷ shifts) zero d within lt = and_left (is_within count shift.duty)
    (are_duties count shifts) within
duty_at count (shift ∷ shifts) (suc k) d within lt = duty_at count shifts k d
    (and_right (is_within count shift.duty) (are_duties count shifts) within) (omega (arith, lt))

-- one more shift, before those that were made
pub shifted_next : (shifts : List Shift) (k left : ℕ) (d : Shift) (old before after : List Stand)
    → k < length shifts → left ≡ suc k → before ≡ shifted (drop left shifts) old
    → after ≡ at_state ((get_or shifts k d).duty - 1) (get_or shifts k d).state before
    → after ≡ shifted (drop k shifts) old
shifted_next shifts k left d old before after lt next was is =
    is
    ∙ (ap (at_state ((get_or shifts k d).duty - 1) (get_or shifts k d).state)
    (was ∙ ap (λ (n : ℕ). shifted (drop n shifts) old) next)
    ∙ ap (λ (xs : List Shift). shifted xs old) (sym (drop-cons shifts k d lt)))

pub get_none : {A : Type 0} (xs : List A) (i : ℕ) → slice_get xs i ≡ None → length xs ≤ i
get_none [] i e = omega arith
get_none (x ∷ xs) zero e = cc
get_none (x ∷ xs) (suc i) e = omega (arith, get_none xs i e)

pub placed-shifted : (n : ℕ) (shifts : List Shift) (all : List Stand)
    → are_placed n (shifted shifts all) ≡ are_placed n all
placed-shifted n [] all = refl
placed-shifted n (shift ∷ shifts) all = placed-state n (shift.duty - 1) shift.state
    (shifted shifts all) ∙ placed-shifted n shifts all

-- one more duty, in any state
pub at_last : (all : List Stand) (stand : Stand)
    → at_state (length all) stand.state (all ++ replicate 1 (open_at stand.place)) ≡ all ++ stand
    ∷ []
at_last [] stand = refl
at_last (x ∷ xs) stand = ap (λ (ss : List Stand). x ∷ ss) (at_last xs stand)

pub get_last : (all : List Stand) (stand : Stand)
    → slice_get (all ++ replicate 1 stand) (length all) ≡ Some stand
get_last [] stand = refl
get_last (x ∷ xs) stand = get_last xs stand

-- an item that exists is read in the same way, whatever default is given
pub read : {A : Type 0} (xs : List A) (i : ℕ) (d : A) → i < length xs
    → get_or xs i d ≡ get_or xs i (get_or xs i d)
read [] i d lt = absurd (omega (arith, lt))
read (x ∷ xs) zero d lt = refl
read (x ∷ xs) (suc i) d lt = read xs i d (omega (arith, lt))
