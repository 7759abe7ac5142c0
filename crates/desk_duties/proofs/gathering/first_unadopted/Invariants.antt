use Rattle.std.proofs.Common.{◌≡◌, drop}
use Rattle.desk_model.specs.Readings.{Readings}
use Rattle.desk_model.specs.Answers.{first_unadopted}
use Rattle.desk_access.specs.Seen.{Same, OfRows}
use Rattle.desk_duties.proofs.gathering.first_unadopted.Given as goal

abbrev pub invariant-loop-term : goal.invariant-loop-term
invariant-loop-term g l =
    let old = g.S.Store.seen l.fn.store in
    let new = g.S.Store.seen l.store in
    record {
      same : Same old new;
      rest : (w : Readings) → g.T.Texts.are_right w
          → OfRows (λ t. first_unadopted w t.adoption l.document (drop l.term-index l.terms)
          ≡ first_unadopted w t.adoption l.document l.terms) old new;
    }
