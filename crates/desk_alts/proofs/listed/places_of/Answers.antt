use Rattle.std.proofs.Common.{◌≡◌, ◌≢◌, get_or, ◌∙◌, ◌≤◌, ◌<◌, ◌+◌, ℕ, length, sym, ap, refl, subst, arith, Some}
use Rattle.std.specs.Prelude.{slice_get}
use Rattle.std.proofs.Math.ListN.{set}
use Rattle.std.proofs.lemmas.List.{get_or-set_same, get_or-set_other, length-set}
use Rattle.std.proofs.lemmas.Option.{slice_get_read}
use Rattle.desk_alts.specs.Listed.{noted_place, lower_in}
use Rattle.desk_alts.proofs.ListedLemmas.{NotedTo, noted_first, noted_none, noted_kept, noted_here, noted_all}
use Rattle.desk_alts.proofs.listed.places_of.Goals as goal
use Rattle.desk_alts.proofs.listed.places_of.Goals.{in-Some+then-place-places, in-Some+else-place-places, in_default}

pub loop-place-init : goal.loop-place-init
loop-place-init c = record {
  size = refl;
  noted = noted_first c.args.chosen.now c.args.own.now 1024 c.requires;
}

pub loop-place-preserved : goal.loop-place-preserved
loop-place-preserved c =
    let chosen = c.args.chosen.now in
    let own = c.args.own.now in
    let i = c.loop-place.place in
    let t = c.index-chosen-place.result in
    let at : slice_get chosen i ≡ Some t =
    slice_get_read chosen (length chosen) i t refl c.loop-place-test.true c.index-chosen-place.is in
    elim c.match-find.branch [
      | in-Some+then-place-places w ↦
          let slot = w.in-Some.slot in
          let before = c.loop-place.places in
          let found = w.in-Some.ensures.some in
          let within : slot < length before = let below = found.1 in
          omega (arith, below, c.requires, c.loop-place.invariant.size) in
          let here : get_or (set before slot i) (lower_in own t) 0 ≡ i =
          ap (λ k. get_or (set before slot i) k 0) (sym found.0)
          ∙ get_or-set_same before slot i 0 within in
          let others : (j : ℕ) → j ≢ lower_in own t → get_or (set before slot
          i) j 0 ≡ get_or before j 0 = λ j other. get_or-set_other before slot j i 0
          (λ e. other (e ∙ found.0)) in
          record {
            size = ap length w.places-is ∙ (length-set before slot i ∙ c.loop-place.invariant.size);
            noted = subst (λ places. NotedTo chosen own places (i + 1)) (sym w.places-is)
                (noted_here chosen own before (set before slot i) i t at found.2 here others
                c.loop-place.invariant.noted);
          }
      | in-Some+else-place-places w ↦
          let found = w.in-Some.ensures.some in
          let earlier : noted_place own c.loop-place.places t ≤ i =
          subst (λ k. get_or c.loop-place.places k 0 ≤ i) found.0 w.if-place-places.false in
          record {
            size = ap length w.places-is ∙ c.loop-place.invariant.size;
            noted = subst (λ places. NotedTo chosen own places (i + 1)) (sym w.places-is)
                (noted_kept chosen own c.loop-place.places i t at earlier
                c.loop-place.invariant.noted);
          }
      | in_default w ↦ record {
        size = ap length w.places-is ∙ c.loop-place.invariant.size;
        noted = subst (λ places. NotedTo chosen own places (i + 1)) (sym w.places-is)
            (noted_none chosen own c.loop-place.places i t at w.in_default.ensures.none
            c.loop-place.invariant.noted);
      }
    ]

pub returns : goal.returns
returns c = noted_all c.args.chosen.now c.args.own.now c.loop-place.places c.loop-place.place
    c.loop-place-test.false (omega (arith, c.requires, c.loop-place.invariant.size))
    c.loop-place.invariant.noted
