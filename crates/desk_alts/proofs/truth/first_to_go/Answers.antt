use Rattle.std.proofs.Common.{◌≡◌, ℕ, get_or, Some, subst, sym}
use Rattle.std.specs.Prelude.{slice_get, IfNone}
use Rattle.std.proofs.lemmas.Option.{slice_get_within, slice_get-get_or}
use Rattle.desk_base.proofs.Lists.{item_at}
use Rattle.desk_expr.specs.Meaning.{CanGo}
use Rattle.desk_alts.proofs.truth.first_to_go.Goals as goal

pub returns-in_err-first-clause-none : goal.returns-in_err-first-clause-none
returns-in_err-first-clause-none c =
    subst (λ r. IfNone r ((j place : ℕ) → slice_get c.args.candidates.now j ≡ Some place
    → CanGo c.args.listed.chosen.now c.args.expr.now place → ⊥)) (sym c.from_residual.ensures)
    (λ j place at go. c.in_err-first.ensures.none j
    (slice_get_within c.args.candidates.now j place at)
    ((c.holds_without-marks.ensures j place go.0 at go.1).1 go.2))

pub returns-clause-found : goal.returns-clause-found
returns-clause-found c =
    let candidates = c.args.candidates.now in
    let chosen = c.args.listed.chosen.now in
    let k = c.in_ok-first.first in
    let place = get_or candidates k 0 in
    let found = c.in_ok-first.ensures.found in
    let at : slice_get candidates k ≡ Some place = slice_get-get_or candidates k 0 found.0 in
    let term = item_at chosen place (c.requires.within k place at) in
    record {
      k = k;
      at = at;
      goes = (term.0, term.1, (c.holds_without-marks.ensures k place term.0 at term.1).0 found.1);
      first = λ j p before at' go. c.in_ok-first.ensures.first j before
          ((c.holds_without-marks.ensures j p go.0 at' go.1).1 go.2);
    }
