-- The rows of each recorded history can be counted: its releases have the places from 1 to their
-- number, and its duties the numbers 1, 2 and so on; there are at most 100,000, each of a release
-- that exists.
use Rattle.std.proofs.Common.{◌≡◌, ℕ, suc, ◌+◌, ◌≤◌, Bool, true, false, List, [], ◌∷◌, length, map}
use Rattle.std.proofs.Common.{Option, Some, None, refl, sym, ap, ◌∙◌, arith, inl, inr, subst}
use Rattle.std.proofs.Common.{length-append}
use Rattle.std.specs.Prelude.{if◌then◌else◌, ◌&&◌, ◌==◌, nat_le, nat_lt, is_some, unwrap_or, IsTrue}
use Rattle.std.specs.List.{enumerate_from}
use Rattle.std.specs.Option.{option_map, option_and_then}
use Rattle.std.proofs.lemmas.Bool.Decides.{nat_tests}
use Rattle.std.proofs.lemmas.List.{length-map}
use Rattle.std.proofs.lemmas.Bool.{and_from}
use Rattle.desk_base.specs.Day.{is_day}
use Rattle.desk_base.specs.Limits as most
use Rattle.desk_model.specs.Lists.{IsIn, or_else}
use Rattle.desk_model.specs.Readings.{Readings}
use Rattle.desk_model.specs.History.{form_of, form_given, state_of, opened, place_in}
use Rattle.desk_model.specs.Raised.{raised, owed_at}
use Rattle.desk_model.specs.Moves.{duties, duty_row, place}
use Rattle.desk_model.specs.Tables.{tables, release_row, release_rows}
use Rattle.desk_model.specs.Answers.{IsHistory, is_recorded, Freezing, freezing, refused_first, unless, unready}
use Rattle.desk_model.specs.declared.row.Owed.{Owed}
use Rattle.desk_model.specs.declared.row.ReleaseRow.{ReleaseRow}
use Rattle.desk_model.specs.declared.state.DutyState.{DutyState}
use Rattle.desk_model.specs.declared.state.ReleaseState.{ReleaseState}
use Rattle.desk_model.specs.declared.refusal.Limit.TheVariants as limit
use Rattle.desk_model.specs.declared.refusal.Refusal.{Refusal}
use Rattle.desk_model.specs.declared.refusal.Refusal.TheVariants as why
use Rattle.desk_model.specs.declared.command.Answer.{Answer}
use Rattle.desk_model.specs.declared.command.Answer.TheVariants as answered
use Rattle.desk_model.specs.declared.command.Command.{Command}
use Rattle.desk_model.specs.declared.command.Command.TheVariants.{OpenRelease, Freeze}
use Rattle.desk_history.proofs.Lookups.{length-releases, release_found-tables}
use Rattle.desk_history.proofs.Members.{in_cases}
use Rattle.desk_history.proofs.OwnKeys.{owed_release}
use Rattle.desk_access.specs.Follows.{are_numbered}
use Rattle.desk_tally.specs.Stands.{is_within, are_placed, are_places}
use Rattle.desk_tally.specs.Kept.{place_found, stand_of, can_count, are_countable}
use Rattle.desk_tally.specs.declared.stand.Stand.{Stand}
use Rattle.desk_tally.proofs.Bools.{within_low, within_high, within_from}
use Rattle.desk_tally.proofs.Once.{releases-once}
use Rattle.desk_base.proofs.Texts.{text_tells}

-- A freeze is recorded only for a release that was opened, and if there is room for all duties.
record IsFit (form : Option (List ℕ)) (old new : ℕ) : Type 0 where
  opened : is_some form ≡ true
  few : old + new ≤ most.duties

freeze_fit : (day known : Bool) (ready : Option Refusal) (some : Bool) (fault : Option Refusal)
    (fits : Bool) (a : Answer)
    → IsTrue (is_recorded (refused_first
    (unless day why.BadDay ∷ unless known why.UnknownRelease ∷ ready ∷ unless some why.EmptyRelease
    ∷ fault ∷ unless fits (why.Full limit.Duties) ∷ []) a))
    → (known ≡ true) × (fits ≡ true)
freeze_fit false known ready some fault fits a e = cc
freeze_fit true false ready some fault fits a e = cc
freeze_fit true true (Some refusal) some fault fits a e = cc
freeze_fit true true None false fault fits a e = cc
freeze_fit true true None true (Some refusal) fits a e = cc
freeze_fit true true None true None false a e = cc
freeze_fit true true None true None true a e = (refl, refl)

of_form : (form : Option (List ℕ)) (s : ReleaseState)
    → is_some (option_map (λ (f : List ℕ). s) form) ≡ true → is_some form ≡ true
of_form None s e = e
of_form (Some form) s e = refl

fit : (w : Readings) (h : List Command) (r day : List ℕ) → IsHistory w (Freeze r day ∷ h)
    → IsFit (form_of h r) (length (raised w h)) (length (owed_at w h r))
fit w h r day ok =
    let found : Freezing = freezing w h r in
    let so = freeze_fit (is_day day) (is_some found.state) (option_and_then unready found.state)
    (nat_lt 0 found.attached) found.fault
    (nat_le (found.raised + found.owed) most.duties) (answered.Frozen (found.raised + 1) found.owed)
    ok.0 in
    record {
      opened = of_form (form_of h r) (state_of h r) so.0;
      few = (let small : nat_le (length (raised w h) + length (owed_at w h r)) most.duties ≡ true =
          so.1 in grind (arith, nat_tests));
    }

few : (w : Readings) (h : List Command) → IsHistory w h → length (raised w h) ≤ most.duties
few w [] ok = omega arith
few w (Freeze r day ∷ h) ok = omega
    (arith, (fit w h r day ok).few, length-append (raised w h) (owed_at w h r))
few w (_ ∷ h) ok = few w h ok.1

-- the release of each duty was opened
still : (given form : Option (List ℕ)) → is_some form ≡ true → is_some (or_else given form) ≡ true
still None form e = e
still (Some f) form e = refl

of_opened : (w : Readings) (h : List Command) → IsHistory w h → (d : Owed) → IsIn d (raised w h)
    → is_some (form_of h d.release) ≡ true
of_opened w [] ok d m = absurd m
of_opened w (Freeze r day ∷ h) ok d m =
    elim (in_cases d (raised w h) (owed_at w h r) m) [
      | inl old ↦ of_opened w h ok.1 d old
      | inr new ↦ subst (λ n. is_some (form_of h n) ≡ true) (sym (owed_release w h r d new))
          (fit w h r day ok).opened
    ]
of_opened w (OpenRelease r f ∷ h) ok d m = still (form_given d.release (OpenRelease r f))
    (form_of h d.release) (of_opened w h ok.1 d m)
of_opened w (_ ∷ h) ok d m = of_opened w h ok.1 d m

-- a release that was opened has a place from 1 to their number
at_place : (h : List Command) (r : List ℕ) → is_some (form_of h r) ≡ true
    → is_within (length (opened h)) (place_in (opened h) r) ≡ true
at_place [] r e = cc
at_place (OpenRelease n f ∷ h) r e =
    elim (text_tells n r) [
      | inl same ↦ rw same.0 (within_from (suc (length (opened h))) (length (opened h) + 1)
          (omega arith) (omega arith))
      | inr differ ↦
          (let before : is_within (length (opened h)) (place_in (opened h) r) ≡ true =
          at_place h r (rw differ.0 at e) in
          rw differ.0 (within_from (suc (length (opened h))) (place_in (opened h) r)
          (within_low (length (opened h)) (place_in (opened h) r) before)
          (omega (arith, within_high (length (opened h)) (place_in (opened h) r) before))))
    ]
at_place (_ ∷ h) r e = at_place h r e

place-found : (w : Readings) (h : List Command) (r : List ℕ) → is_some (form_of h r) ≡ true
    → unwrap_or (place_found (release_rows h) r) 0 ≡ place_in (opened h) r
place-found w h r known =
    ap (λ o. unwrap_or (option_map (λ (row : ReleaseRow). row.place) o) 0)
    (release_found-tables w h r ∙ ap (λ b. if b then Some (release_row h r) else None) known)

all_placed : (count : ℕ) (releases : List ReleaseRow) (state : ℕ → DutyState) (n : ℕ)
    (xs : List Owed) → ((d : Owed) → IsIn d xs
    → is_within count (unwrap_or (place_found releases d.release) 0) ≡ true)
    → are_placed count (map (stand_of releases)
    (map (λ (d : ℕ × Owed). duty_row (state d.0) d) (enumerate_from n xs))) ≡ true
all_placed count releases state n [] within = refl
all_placed count releases state n (x ∷ xs) within =
    and_from (is_within count (unwrap_or (place_found releases x.release) 0))
    (are_placed count (map (stand_of releases)
    (map (λ (d : ℕ × Owed). duty_row (state d.0) d) (enumerate_from (n + 1) xs))))
    (within x (inl refl)) (all_placed count releases state (n + 1) xs (λ d m. within d (inr m)))

duties-placed : (w : Readings) (h : List Command) → IsHistory w h
    → are_placed (length (opened h)) (map (stand_of (release_rows h)) (duties w h)) ≡ true
duties-placed w h ok = all_placed (length (opened h)) (release_rows h) (place w h) 1 (raised w h)
    (λ d m.
    let known = of_opened w h ok d m in
    ap (is_within (length (opened h))) (place-found w h d.release known)
    ∙ at_place h d.release known)

all_numbered : (state : ℕ → DutyState) (n : ℕ) (xs : List Owed)
    → are_numbered n (map (λ (d : ℕ × Owed). duty_row (state d.0) d) (enumerate_from n xs)) ≡ true
all_numbered state n [] = refl
all_numbered state n (x ∷ xs) =
    and_from (n == n) (are_numbered (n + 1)
    (map (λ (d : ℕ × Owed). duty_row (state d.0) d) (enumerate_from (n + 1) xs)))
    (grind (arith, nat_tests)) (all_numbered state (n + 1) xs)

length-numbered : (state : ℕ → DutyState) (n : ℕ) (xs : List Owed)
    → length (map (λ (d : ℕ × Owed). duty_row (state d.0) d) (enumerate_from n xs)) ≡ length xs
length-numbered state n [] = refl
length-numbered state n (x ∷ xs) = ap suc (length-numbered state (n + 1) xs)

pub countable : (w : Readings) (h : List Command) → IsHistory w h
    → are_countable (tables w h).releases (tables w h).duty ≡ true
countable w h ok =
    let places : List ℕ = map (λ (row : ReleaseRow). row.place) (release_rows h) in
    let all : List Stand = map (stand_of (release_rows h)) (duties w h) in
    let count : length places ≡ length (opened h) = length-map (release_rows h) (λ row. row.place)
    ∙ length-releases h in
    let number : length all ≡ length (raised w h) =
    length-map (duties w h) (stand_of (release_rows h))
    ∙ length-numbered (place w h) 1 (raised w h) in
    let limited : length all ≤ most.duties = omega (arith, number, few w h ok) in
    and_from (are_numbered 1 (duties w h)) (can_count places all)
    (all_numbered (place w h) 1 (raised w h))
    (and_from (nat_le (length all) most.duties)
    (are_placed (length places) all && are_places (length places) (λ place. false) places)
    (grind (arith, nat_tests, limited))
    (and_from (are_placed (length places) all) (are_places (length places) (λ place. false) places)
    (ap (λ k. are_placed k all) count ∙ duties-placed w h ok)
    (ap (λ k. are_places k (λ place. false) places) count ∙ releases-once w h ok)))
