use Rattle.std.proofs.Common.{◌-◌, length, take, drop, rules, ltb}
use Rattle.std.proofs.lemmas.List.Sorted.{IsPartitionedBy-ltb, IsPartitionPoint-from_clause}
use Rattle.std.proofs.lemmas.List.Sorted.{IsNonDecreasingBy-take, IsNonDecreasingBy-drop}
use Rattle.std.proofs.lemmas.List.{take_rest}
use Rattle.desk_bom.specs.declared.arrows.Arrow.{Arrow}
use Rattle.desk_bom.proofs.AscendLemmas.{ascend_take, ascend_drop}
use Rattle.desk_bom.proofs.TargetLemmas.{are_targets}
use Rattle.desk_bom.proofs.arrows.targets.Goals as goal

pub count_upto-requires : goal.count_upto-requires
count_upto-requires c =
    let xs = c.args.arrows.now in
    let from = λ (x : Arrow). x.from in
    let s = c.partition_point-start.result in
    IsNonDecreasingBy-take from (length xs - s) (drop s xs)
    (IsNonDecreasingBy-drop from s xs c.requires)

pub returns-clause-targets : goal.returns-clause-targets
returns-clause-targets c =
    let xs = c.args.arrows.now in
    let s = c.partition_point-start.result in
    let rest = take (length xs - s) (drop s xs) in
    are_targets xs rest c.args.place s c.count_upto.result (take_rest xs s)
    (IsPartitionPoint-from_clause (λ x. ltb x.from c.args.place) xs s
    c.partition_point-start.ensures.partitioned
    (IsPartitionedBy-ltb (λ (x : Arrow). x.from) xs c.args.place c.requires)
    (λ a r q k. search rules))
    c.count_upto.ensures.upto c.count_upto.ensures.above

pub returns-clause-order : goal.returns-clause-order
returns-clause-order c = λ up.
    let xs = c.args.arrows.now in
    let s = c.partition_point-start.result in
    ascend_take c.count_upto.result (take (length xs - s) (drop s xs))
    (ascend_take (length xs - s) (drop s xs) (ascend_drop s xs up))
