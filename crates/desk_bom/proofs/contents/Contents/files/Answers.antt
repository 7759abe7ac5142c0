use Rattle.std.proofs.Common.{subst, sym}
use Rattle.std.specs.List.Sorted.{IsNonDecreasingBy}
use Rattle.desk_bom.specs.declared.arrows.Arrow.{Arrow}
use Rattle.desk_bom.specs.Targets.{AreTargets, Ascend}
use Rattle.desk_bom.proofs.AscendLemmas.{ascend_from, ascend_to}
use Rattle.desk_bom.proofs.TargetLemmas.{led_to, leads_to}
use Rattle.desk_bom.proofs.contents.Contents.files.Goals as goal

pub targets-requires : goal.targets-requires
targets-requires c = subst (IsNonDecreasingBy (λ (x : Arrow). x.from)) (sym c.deref.ensures.value)
    (ascend_from c.args.self.now.arrows.items c.args.self.now.ascend)

pub returns-clause-once : goal.returns-clause-once
returns-clause-once c =
    ascend_to c.targets.result.now c.args.owner
    (c.targets.ensures.order (subst Ascend (sym c.deref.ensures.value) c.args.self.now.ascend))
    (λ x h. (c.targets.ensures.targets.only x h).1)

pub returns-clause-members : goal.returns-clause-members
returns-clause-members c = λ j.
    let arrows = c.args.self.now.arrows.items in
    let targets = subst (λ l. AreTargets l c.args.owner c.targets.result.now) c.deref.ensures.value
    c.targets.ensures.targets in (
      λ h. led_to arrows c.targets.result.now c.args.owner j targets h,
      λ h. leads_to arrows c.targets.result.now c.args.owner j targets h,
    )
