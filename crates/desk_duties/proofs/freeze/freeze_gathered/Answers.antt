use Rattle.std.proofs.Common.{rules, refl}
use Rattle.desk_access.proofs.Chains.{same_then_same}
use Rattle.desk_duties.proofs.freeze.freeze_gathered.Goals as goal

pub returns-clause-kept : goal.returns-clause-kept
returns-clause-kept g c = (
  same_then_same _ _ _ c.in_ok-old.ensures.kept c.in_ok-revision.ensures.kept,
  refl,
)

pub returns-clause-plan : goal.returns-clause-plan
returns-clause-plan g c = λ h t held.
    let count = c.in_ok-old.ensures.found (c.in_ok-revision.ensures.kept.kept.spared.honest h) t
    held in
    let revision = c.in_ok-revision.ensures.found h t
    (c.in_ok-old.ensures.kept.kept.spared.holds t held) in
    (search rules, search rules)
