-- The step of a change leads to the tables after it.
use Rattle.std.proofs.Common.{◌≡◌, ℕ, ◌+◌, true, List, ◌++◌, length, map, replicate, Option, Some}
use Rattle.std.proofs.Common.{refl, sym, ap, ◌∙◌, arith, subst}
use Rattle.std.proofs.lemmas.List.{map-append, length-map}
use Rattle.desk_model.specs.Lists.{put, updated}
use Rattle.desk_model.specs.Keys.{is_release, release_below}
use Rattle.desk_model.specs.Tables.{Tables, applied, moved_by, with_release_state, withdrawn_release}
use Rattle.desk_model.specs.declared.state.ReleaseState.TheVariants.{Frozen}
use Rattle.desk_model.specs.declared.row.ReleaseRow.{ReleaseRow}
use Rattle.desk_model.specs.declared.row.DutyRow.{DutyRow}
use Rattle.desk_model.specs.declared.row.ChangeRow.{ChangeRow}
use Rattle.desk_model.specs.declared.command.Change.{Change}
use Rattle.desk_model.specs.declared.command.Change.TheVariants as change
use Rattle.desk_history.specs.Laws.{Ascends}
use Rattle.desk_access.specs.Follows.{are_numbered}
use Rattle.desk_tally.specs.Stands.{are_placed, stands_after, count_after, shift_of, are_duties, shifted, open_at}
use Rattle.desk_tally.specs.Kept.{IsKept, IsPlaceFor, IsStep, ArePlaces, place_found, stand_of}
use Rattle.desk_tally.specs.declared.stand.Stand.{Stand}
use Rattle.desk_tally.specs.declared.stand.Step.{Step}
use Rattle.desk_tally.specs.declared.stand.Step.TheVariants as step
use Rattle.desk_tally.proofs.Names.{found-updated, length-updated, places-updated, length-put}
use Rattle.desk_tally.proofs.Names.{ascends_before, places-put, kept-put, stands-kept}
use Rattle.desk_tally.proofs.Moves.{numbered-moved, stands-moved, numbered-append, raised_numbered, stands-raised}

-- one more release, which has no duties
opened : (row : ReleaseRow) (count : ℕ) (all : List Stand) (t : Tables)
    → are_placed count all ≡ true → Ascends release_below t.releases → row.place ≡ count + 1
    → IsKept count all t → IsKept (count + 1) all (applied (change.Opened row) t)
opened row count all t placed up next kept = record {
  opened = omega (arith, kept.opened, length-put row t.releases);
  stands = kept.stands ∙ sym (stands-kept count t.releases (put release_below row t.releases) t.duty
      (ap (are_placed count) (sym kept.stands) ∙ placed) (kept-put row t.releases up));
  places = places-put row t.releases up (omega (arith, next, kept.opened)) kept.places;
  numbered = kept.numbered;
}

-- the duties keep their places and states, and new ones are open
froze : (release : List ℕ) (revision : ℕ) (duties : List DutyRow) (place : ℕ) (count : ℕ)
    (all : List Stand) (t later : Tables)
    → later.releases ≡ updated (is_release release) (with_release_state Frozen revision) t.releases
    → later.duty ≡ t.duty ++ duties
    → are_placed count all ≡ true → place_found t.releases release ≡ Some place → (n : ℕ)
    → n ≡ length all + 1 → are_numbered n duties ≡ true
    → ((releases : List ReleaseRow) → place_found releases release ≡ Some place
    → map (stand_of releases) duties ≡ replicate (length duties) (open_at place))
    → IsKept count all t → IsKept count (all ++ replicate (length duties) (open_at place)) later
froze release revision duties place count all t later is more placed found n first numbered raised
    kept = record {
      opened = kept.opened ∙ (sym (length-updated (is_release release)
          (with_release_state Frozen revision) t.releases) ∙ ap length (sym is));
      stands =
          ap (λ (ss : List Stand). ss ++ replicate (length duties) (open_at place))
          (kept.stands ∙ sym before)
          ∙ (ap (λ (ss : List Stand). map (stand_of later.releases) t.duty ++ ss)
          (sym (raised later.releases (same release ∙ found)))
          ∙ (sym (map-append (stand_of later.releases) t.duty duties)
          ∙ ap (map (stand_of later.releases)) (sym more)));
      places = places-updated t.releases later.releases same
          (ap length is ∙ length-updated (is_release release) (with_release_state Frozen revision)
          t.releases) kept.places;
      numbered = ap (are_numbered 1) more
          ∙ numbered-append 1 t.duty duties kept.numbered
          (ap (λ k. are_numbered k duties) (sym next) ∙ numbered);
    }
  where
    same : (name : List ℕ) → place_found later.releases name ≡ place_found t.releases name
    same name = ap (λ rows. place_found rows name) is
        ∙ found-updated (is_release release) (with_release_state Frozen revision) (λ row. refl)
        (λ row. refl) name t.releases

    before : map (stand_of later.releases) t.duty ≡ map (stand_of t.releases) t.duty
    before = stands-kept count t.releases later.releases t.duty
        (ap (are_placed count) (sym kept.stands) ∙ placed) (λ name place e. same name ∙ e)

    next : n ≡ 1 + length t.duty
    next = omega (arith, first, ap length kept.stands, length-map t.duty (stand_of t.releases))

-- duties that are moved, of releases that are kept or withdrawn
moved : (changes : List ChangeRow) (count : ℕ) (all : List Stand) (t later : Tables)
    → ((name : List ℕ) → place_found later.releases name ≡ place_found t.releases name)
    → length later.releases ≡ length t.releases → later.duty ≡ moved_by changes t.duty
    → are_placed count all ≡ true → are_duties (length all) (map shift_of changes) ≡ true
    → IsKept count all t → IsKept count (shifted (map shift_of changes) all) later
moved changes count all t later same number more placed within kept = record {
  opened = kept.opened ∙ sym number;
  stands =
      ap (shifted (map shift_of changes)) (kept.stands ∙ sym before)
      ∙ (sym (stands-moved later.releases (length all) changes t.duty kept.numbered within)
      ∙ ap (map (stand_of later.releases)) (sym more));
  places = places-updated t.releases later.releases same number kept.places;
  numbered = ap (are_numbered 1) more ∙ numbered-moved changes 1 t.duty kept.numbered;
}
  where
    before : map (stand_of later.releases) t.duty ≡ map (stand_of t.releases) t.duty
    before = stands-kept count t.releases later.releases t.duty
        (ap (are_placed count) (sym kept.stands) ∙ placed) (λ name place e. same name ∙ e)

-- rows of releases and duties that are kept
stayed : (count : ℕ) (all : List Stand) (t later : Tables) → later.releases ≡ t.releases
    → later.duty ≡ t.duty → IsKept count all t → IsKept count all later
stayed count all t later same number kept = record {
  opened = kept.opened ∙ ap length (sym same);
  stands = kept.stands ∙ (ap (λ rows. map (stand_of rows) t.duty) (sym same)
      ∙ ap (map (stand_of later.releases)) (sym number));
  places = subst ArePlaces (sym same) kept.places;
  numbered = ap (are_numbered 1) number ∙ kept.numbered;
}

at_step : (count : ℕ) (all : List Stand) (s given : Step) (t : Tables) → s ≡ given
    → IsKept (count_after given count) (stands_after given all) t
    → IsKept (count_after s count) (stands_after s all) t
at_step count all s given t e kept = subst (λ (x : Step). IsKept (count_after x count)
    (stands_after x all) t) (sym e) kept

pub leads : (c : Change) (place : Option ℕ) (count : ℕ) (all : List Stand) (s : Step) (t : Tables)
    → are_placed count all ≡ true → Ascends release_below (applied c t).releases
    → IsPlaceFor c place t → IsStep c place count all s → IsKept count all t
    → IsKept (count_after s count) (stands_after s all) (applied c t)
leads (change.Opened row) place count all s t placed up at is kept = at_step count all s step.Open _
    is.0 (opened row count all t placed (ascends_before row t.releases up) is.1 kept)
leads (change.Froze release revision rows duties changes) place count all s t placed up at is kept =
    at_step count all s (step.Raise is.at (length duties)) _ is.is
    (froze release revision duties is.at count all t
    (applied (change.Froze release revision rows duties changes) t) refl refl placed
    (sym at ∙ is.found) (length all + 1) refl
    (raised_numbered (length all + 1) release duties is.raised)
    (λ releases found. stands-raised releases release is.at (length all + 1) duties found is.raised)
    kept)
leads (change.Moved changes) place count all s t placed up at is kept =
    at_step count all s (step.Move (map shift_of changes)) _ is.0
    (moved changes count all t (applied (change.Moved changes) t) (λ name. refl) refl refl placed
    is.1 kept)
leads (change.Withdrew release changes) place count all s t placed up at is kept =
    at_step count all s (step.Move (map shift_of changes)) _ is.0
    (moved changes count all t (applied (change.Withdrew release changes) t)
    (λ name. found-updated (is_release release) withdrawn_release (λ row. refl) (λ row. refl) name
    t.releases)
    (length-updated (is_release release) withdrawn_release t.releases) refl placed is.1 kept)
leads (change.Loaded row rules forms) place count all s t placed up at is kept = at_step count all s
    step.Stay _ is (stayed count all t (applied (change.Loaded row rules forms) t) refl refl kept)
leads (change.Imported row packages references) place count all s t placed up at is kept = at_step
    count all s step.Stay _ is (stayed count all t
    (applied (change.Imported row packages references) t) refl refl kept)
leads (change.Attached row) place count all s t placed up at is kept = at_step count all s step.Stay
    _ is (stayed count all t (applied (change.Attached row) t) refl refl kept)
leads (change.Chosen release document package_id rows) place count all s t placed up at is kept =
    at_step count all s step.Stay _ is
    (stayed count all t (applied (change.Chosen release document package_id rows) t) refl refl kept)
leads (change.Concluded row) place count all s t placed up at is kept = at_step count all s
    step.Stay _ is (stayed count all t (applied (change.Concluded row) t) refl refl kept)
leads (change.Adopted row) place count all s t placed up at is kept = at_step count all s step.Stay
    _ is (stayed count all t (applied (change.Adopted row) t) refl refl kept)
