use Rattle.std.proofs.Common.{◌≡◌, ◌∙◌, ◌+◌, ◌-◌, ◌≤◌, ap, sym, arith, length, Some}
use Rattle.std.specs.Prelude.{slice_get}
use Rattle.desk_tally.specs.Stands.{totals_at}
use Rattle.desk_tally.proofs.Counts.{get_none}
use Rattle.desk_tally.proofs.Found.{totals-found}
use Rattle.desk_tally.proofs.tallies.Tallies.totals.Goals as goal

pub returns-in-Some-clause-kept : goal.returns-in-Some-clause-kept
returns-in-Some-clause-kept c = λ t name kept found.
    let self = c.args.self.now in
    let index = c.args.place - 1 in
    let at : slice_get self.tallies.items index ≡ Some c.in-Some.tally.now =
    ap (λ xs. slice_get xs index) (sym c.as_slice.ensures.value) ∙ sym c.in-Some.ensures in
    let same : index + 1 ≡ c.args.place = omega (arith, c.if-place-eq0.false) in
    ap Some (c.totals.ensures ∙ (self.tallied index c.in-Some.tally.now at
    ∙ (ap (λ n. totals_at n self.stands.items) same
    ∙ totals-found (length self.tallies.items) self.stands.items t name c.args.place kept found)))

pub returns-in-None-clause-kept : goal.returns-in-None-clause-kept
returns-in-None-clause-kept c = λ t name kept found.
    let self = c.args.self.now in
    let index = c.args.place - 1 in
    let within = kept.places.within name c.args.place found in
    let over : length self.tallies.items ≤ index =
    get_none self.tallies.items index
    (ap (λ xs. slice_get xs index) (sym c.as_slice.ensures.value) ∙ sym c.in-None.ensures) in
    absurd (omega (arith, over, within.0, within.1, kept.opened, c.if-place-eq0.false))
