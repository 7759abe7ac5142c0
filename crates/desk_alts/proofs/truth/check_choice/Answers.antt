use Rattle.std.proofs.Common.{◌≡◌, Some, sym, subst, refl, arith}
use Rattle.std.specs.Prelude.{slice_get}
use Rattle.desk_expr.specs.Meaning.{CanGo, IsFirst}
use Rattle.desk_alts.specs.Rounds.{IsFirstToGo}
use Rattle.desk_alts.proofs.Minimal.{minimal_if_none_can_go, not_minimal_if_can_go}
use Rattle.desk_alts.proofs.GoLemmas.{first_goes, none_goes}
use Rattle.desk_alts.proofs.truth.check_choice.Goals as goal

pub returns-in-Some-clause-superfluous : goal.returns-in-Some-clause-superfluous
returns-in-Some-clause-superfluous c =
    λ i same.
    let is : c.in-Some.place ≡ i = cc in
    let found = subst (λ places. IsFirstToGo c.args.chosen.now c.args.expr.now places
    c.in-Some.place) c.as_slice-in-loop-from.ensures.value c.in-Some.ensures.found in
    subst (IsFirst (CanGo c.args.chosen.now c.args.expr.now)) is
    (first_goes c.args.chosen.now c.args.expr.now c.loop-from.from c.round-candidates.result.1
    c.round-candidates.result.0.items c.round-candidates.ensures.round c.loop-from.invariant.kept
    c.in-Some.place found)

pub returns-in-Some-clause-minimal : goal.returns-in-Some-clause-minimal
returns-in-Some-clause-minimal c = (
  (λ same. cc),
  (λ minimal. absurd (not_minimal_if_can_go c.args.chosen.now c.args.expr.now c.in-Some.place
      c.in-Some.ensures.found.goes minimal)),
)

pub loop-from-preserved : goal.loop-from-preserved
loop-from-preserved c = record {
  within = c.round-candidates.ensures.onward.1;
  kept = none_goes c.args.chosen.now c.args.expr.now c.loop-from.from c.round-candidates.result.1
      c.round-candidates.result.0.items c.round-candidates.ensures.round c.loop-from.invariant.kept
      (λ j place at. c.in_default.ensures.none j place
      (subst (λ places. slice_get places j ≡ Some place) (sym c.as_slice-in-loop-from.ensures.value)
      at));
}

pub returns-clause-minimal : goal.returns-clause-minimal
returns-clause-minimal c = (
  (λ same. minimal_if_none_can_go c.args.chosen.now c.args.expr.now
      (c.holds_in.ensures.0 c.if-not-holds_in.false)
      (λ i within. c.loop-from.invariant.kept i (omega arith))),
  (λ minimal. refl),
)
