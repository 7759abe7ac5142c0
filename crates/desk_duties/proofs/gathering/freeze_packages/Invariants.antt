use Rattle.std.proofs.Common.{◌≡◌, ◌++◌, drop}
use Rattle.desk_model.specs.Readings.{Readings}
use Rattle.desk_model.specs.Answers.{walk}
use Rattle.desk_model.specs.Raised.{frozen_for, owed_for}
use Rattle.desk_history.specs.FromTables.{conclusion_found, rules_found, choice_found}
use Rattle.desk_access.specs.Seen.{Same, OfRows}
use Rattle.desk_duties.proofs.gathering.freeze_packages.Given as goal

abbrev pub invariant-loop-row : goal.invariant-loop-row
invariant-loop-row g l =
    let old = g.S.Store.seen l.fn.store in
    let new = g.S.Store.seen l.store in
    let rest = drop l.row-index l.packages in
    record {
      same : Same old new;
      gathered : (w : Readings) → g.T.Texts.are_right w → OfRows (λ t. record {
        walked : walk w t.adoption (rules_found t) l.freezing.form.now (conclusion_found w t)
            (choice_found t l.freezing.release.now) rest
            ≡ walk w t.adoption (rules_found t) l.freezing.form.now (conclusion_found w t)
            (choice_found t l.freezing.release.now) l.packages;
        frozen : l.gathered.frozen.items
            ++ frozen_for w t.adoption (rules_found t) l.freezing.form.now l.freezing.release.now
            (choice_found t l.freezing.release.now) rest ≡ l.fn.gathered.frozen.items
            ++ frozen_for w t.adoption (rules_found t) l.freezing.form.now l.freezing.release.now
            (choice_found t l.freezing.release.now) l.packages;
        owed : l.gathered.owed.items ++ owed_for w t.adoption (rules_found t) l.freezing.form.now
            l.freezing.release.now (choice_found t l.freezing.release.now) rest
            ≡ l.fn.gathered.owed.items ++ owed_for w t.adoption (rules_found t) l.freezing.form.now
            l.freezing.release.now (choice_found t l.freezing.release.now) l.packages;
      }) old new;
    }
