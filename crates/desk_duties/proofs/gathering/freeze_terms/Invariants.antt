use Rattle.std.proofs.Common.{◌≡◌, ◌++◌, drop}
use Rattle.desk_model.specs.Readings.{Readings}
use Rattle.desk_model.specs.Answers.{first_unruled}
use Rattle.desk_model.specs.Raised.{frozen_for_terms, owed_for_terms}
use Rattle.desk_history.specs.FromTables.{rules_found}
use Rattle.desk_access.specs.Seen.{Same, OfRows}
use Rattle.desk_duties.proofs.gathering.freeze_terms.Given as goal

abbrev pub invariant-loop-term : goal.invariant-loop-term
invariant-loop-term g l =
    let old = g.S.Store.seen l.fn.store in
    let new = g.S.Store.seen l.store in
    let rest = drop l.term-index l.terms in
    record {
      same : Same old new;
      gathered : (w : Readings) → g.T.Texts.are_right w → OfRows (λ t. record {
        unruled : first_unruled w t.adoption (rules_found t) l.freezing.form.now l.row rest
            ≡ first_unruled w t.adoption (rules_found t) l.freezing.form.now l.row l.terms;
        frozen : l.gathered.frozen.items
            ++ frozen_for_terms w t.adoption (rules_found t) l.freezing.form.now
            l.freezing.release.now l.row rest ≡ l.fn.gathered.frozen.items
            ++ frozen_for_terms w t.adoption (rules_found t) l.freezing.form.now
            l.freezing.release.now l.row l.terms;
        owed : l.gathered.owed.items ++ owed_for_terms w t.adoption (rules_found t)
            l.freezing.form.now l.freezing.release.now l.row rest ≡ l.fn.gathered.owed.items
            ++ owed_for_terms w t.adoption (rules_found t) l.freezing.form.now
            l.freezing.release.now l.row l.terms;
      }) old new;
    }
