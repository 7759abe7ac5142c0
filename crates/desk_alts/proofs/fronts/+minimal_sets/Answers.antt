use Rattle.std.proofs.Common.{inl, inr, arith}
use Rattle.desk_alts.proofs.FrontLemmas.{all_start, any_start, all_front, any_front, all_done}
use Rattle.desk_alts.proofs.FrontLemmas.{any_done, table_for_part, part_is_smaller}
use Rattle.desk_expr.specs.Tree.{all, any}
use Rattle.desk_alts.specs.Faults.{IsWidthFaultOf}
use Rattle.desk_alts.proofs.FaultLemmas.{memory_only, handed_on, width_fault, width_told}
use Rattle.desk_alts.proofs.Widths.{narrow_start, narrow_more, narrow_done, all_is_node}
use Rattle.desk_alts.proofs.Widths.{any_is_node, wide_by_part, wide_by_front}
use Rattle.desk_alts.proofs.fronts.+minimal_sets.Goals as goal

pub loop-part-init : goal.loop-part-init
loop-part-init t c = record {
  minimal = all_start c.args.table.now c.new-kept.result c.insert.new.self c.new-kept.ensures
      c.in_ok-insert-in-All.ensures.apart c.in_ok-insert-in-All.ensures.exact;
  narrow = narrow_start all c.in-All.parts.now;
}

pub minimal_sets-requires : goal.minimal_sets-requires
minimal_sets-requires t c =
    let smaller = part_is_smaller c.in-All.parts.now c.loop-part.part-index c.part-item.result
    c.args.expr.now c.loop-part-test.true c.part-item.is (inl c.in-All.ensures.top) in (
      omega (arith, smaller, c.decreases),
      table_for_part c.args.table.now c.in-All.parts.now c.loop-part.part-index c.part-item.result
          c.args.expr.now c.loop-part-test.true c.part-item.is (inl c.in-All.ensures.top)
          c.requires,
    )

pub loop-part-preserved : goal.loop-part-preserved
loop-part-preserved t c =
    let minimal = all_front c.args.table.now c.in-All.parts.now c.loop-part.part-index
    c.part-item.result c.loop-part.kept c.in_ok-sets-in-All.sets c.in_ok-kept-in-All.kept
    c.loop-part-test.true c.part-item.is c.loop-part.invariant.minimal
    c.in_ok-sets-in-All.ensures.minimal c.in_ok-kept-in-All.ensures.apart
    c.in_ok-kept-in-All.ensures.exact in
    record {
      minimal = minimal;
      narrow = narrow_more all all_is_node c.args.table.now c.in-All.parts.now
          c.loop-part.part-index c.part-item.result c.args.expr.now c.in_ok-kept-in-All.kept
          c.loop-part-test.true c.part-item.is c.in-All.ensures.top c.requires
          c.in_ok-sets-in-All.ensures.narrow minimal
          c.in_ok-check_width-in-All.ensures.narrow c.loop-part.invariant.narrow;
    }

pub loop-part-2-init : goal.loop-part-2-init
loop-part-2-init t c = record {
  minimal = any_start c.args.table.now c.new-kept-in-Any.result c.new-kept-in-Any.ensures;
  narrow = narrow_start any c.in-Any.parts.now;
}

pub minimal_sets-requires-in-loop-part-2 : goal.minimal_sets-requires-in-loop-part-2
minimal_sets-requires-in-loop-part-2 t c =
    let smaller = part_is_smaller c.in-Any.parts.now c.loop-part-2.part-index
    c.part-item-in-loop-part-2.result c.args.expr.now c.loop-part-2-test.true
    c.part-item-in-loop-part-2.is (inr c.in-Any.ensures.top) in (
      omega (arith, smaller, c.decreases),
      table_for_part c.args.table.now c.in-Any.parts.now c.loop-part-2.part-index
          c.part-item-in-loop-part-2.result c.args.expr.now c.loop-part-2-test.true
          c.part-item-in-loop-part-2.is (inr c.in-Any.ensures.top) c.requires,
    )

pub insert_all-requires : goal.insert_all-requires
insert_all-requires t c = c.loop-part-2.invariant.minimal.apart

pub loop-part-2-preserved : goal.loop-part-2-preserved
loop-part-2-preserved t c =
    let minimal = any_front c.args.table.now c.in-Any.parts.now c.loop-part-2.part-index
    c.part-item-in-loop-part-2.result c.loop-part-2.kept c.in_ok-sets-in-Any.sets
    c.insert_all.new.self c.loop-part-2-test.true c.part-item-in-loop-part-2.is
    c.loop-part-2.invariant.minimal
    c.in_ok-sets-in-Any.ensures.minimal c.in_ok-insert_all-in-Any.ensures.apart
    c.in_ok-insert_all-in-Any.ensures.exact in
    record {
      minimal = minimal;
      narrow = narrow_more any any_is_node c.args.table.now c.in-Any.parts.now
          c.loop-part-2.part-index c.part-item-in-loop-part-2.result c.args.expr.now
          c.insert_all.new.self c.loop-part-2-test.true c.part-item-in-loop-part-2.is
          c.in-Any.ensures.top c.requires c.in_ok-sets-in-Any.ensures.narrow minimal
          c.in_ok-check_width-in-Any.ensures.narrow c.loop-part-2.invariant.narrow;
    }

pub returns-after-loop-part-clause-minimal : goal.returns-after-loop-part-clause-minimal
returns-after-loop-part-clause-minimal t c = all_done c.args.table.now c.in-All.parts.now
    c.loop-part.part-index c.args.expr.now c.loop-part.kept c.loop-part-test.false
    c.in-All.ensures.top c.loop-part.invariant.minimal

pub returns-after-loop-part-clause-narrow : goal.returns-after-loop-part-clause-narrow
returns-after-loop-part-clause-narrow t c = narrow_done all all_is_node c.in-All.parts.now
    c.loop-part.part-index c.args.expr.now c.loop-part-test.false c.in-All.ensures.top
    c.loop-part.invariant.narrow

pub returns-after-loop-part-2-clause-minimal : goal.returns-after-loop-part-2-clause-minimal
returns-after-loop-part-2-clause-minimal t c = any_done c.args.table.now c.in-Any.parts.now
    c.loop-part-2.part-index c.args.expr.now c.loop-part-2.kept c.loop-part-2-test.false
    c.in-Any.ensures.top c.loop-part-2.invariant.minimal

pub returns-after-loop-part-2-clause-narrow : goal.returns-after-loop-part-2-clause-narrow
returns-after-loop-part-2-clause-narrow t c = narrow_done any any_is_node c.in-Any.parts.now
    c.loop-part-2.part-index c.args.expr.now c.loop-part-2-test.false c.in-Any.ensures.top
    c.loop-part-2.invariant.narrow

pub returns-in_err-check_width-in-All-clause-wide : goal.returns-in_err-check_width-in-All-clause-wide
returns-in_err-check_width-in-All-clause-wide t c =
    let minimal = all_front c.args.table.now c.in-All.parts.now c.loop-part.part-index
    c.part-item.result c.loop-part.kept c.in_ok-sets-in-All.sets c.in_ok-kept-in-All.kept
    c.loop-part-test.true c.part-item.is c.loop-part.invariant.minimal
    c.in_ok-sets-in-All.ensures.minimal c.in_ok-kept-in-All.ensures.apart
    c.in_ok-kept-in-All.ensures.exact in
    let wide = c.in_err-check_width-in-All.ensures.wide in
    width_told c.args.expr.now c.from_residual-in_err-check_width-in-All.result
    c.in_err-check_width-in-All.field-0.0 c.from_residual-in_err-check_width-in-All.ensures.1 wide.0
    (wide_by_front all all_is_node c.args.table.now c.in-All.parts.now c.loop-part.part-index
    c.args.expr.now c.in_ok-kept-in-All.kept c.loop-part-test.true c.in-All.ensures.top c.requires
    minimal wide.1)

pub returns-in_err-check_width-in-Any-clause-wide : goal.returns-in_err-check_width-in-Any-clause-wide
returns-in_err-check_width-in-Any-clause-wide t c =
    let minimal = any_front c.args.table.now c.in-Any.parts.now c.loop-part-2.part-index
    c.part-item-in-loop-part-2.result c.loop-part-2.kept c.in_ok-sets-in-Any.sets
    c.insert_all.new.self c.loop-part-2-test.true c.part-item-in-loop-part-2.is
    c.loop-part-2.invariant.minimal
    c.in_ok-sets-in-Any.ensures.minimal c.in_ok-insert_all-in-Any.ensures.apart
    c.in_ok-insert_all-in-Any.ensures.exact in
    let wide = c.in_err-check_width-in-Any.ensures.wide in
    width_told c.args.expr.now c.from_residual-in_err-check_width-in-Any.result
    c.in_err-check_width-in-Any.field-0.0 c.from_residual-in_err-check_width-in-Any.ensures.1 wide.0
    (wide_by_front any any_is_node c.args.table.now c.in-Any.parts.now c.loop-part-2.part-index
    c.args.expr.now c.insert_all.new.self c.loop-part-2-test.true c.in-Any.ensures.top c.requires
    minimal wide.1)

pub returns-in_err-leaf_sets-in-One-clause-wide : goal.returns-in_err-leaf_sets-in-One-clause-wide
returns-in_err-leaf_sets-in-One-clause-wide t c = memory_only (IsWidthFaultOf c.args.expr.now)
    (λ error. tt) c.from_residual.result c.in_err-leaf_sets-in-One.field-0.0
    c.from_residual.ensures.1

pub returns-in_err-insert-in-All-clause-wide : goal.returns-in_err-insert-in-All-clause-wide
returns-in_err-insert-in-All-clause-wide t c = memory_only (IsWidthFaultOf c.args.expr.now)
    (λ error. tt) c.from_residual-in_err-insert-in-All.result c.in_err-insert-in-All.field-0.0
    c.from_residual-in_err-insert-in-All.ensures.1

pub returns-in_err-kept-in-All-clause-wide : goal.returns-in_err-kept-in-All-clause-wide
returns-in_err-kept-in-All-clause-wide t c = memory_only (IsWidthFaultOf c.args.expr.now)
    (λ error. tt) c.from_residual-in_err-kept-in-All.result c.in_err-kept-in-All.field-0.0
    c.from_residual-in_err-kept-in-All.ensures.1

pub returns-in_err-insert_all-in-Any-clause-wide : goal.returns-in_err-insert_all-in-Any-clause-wide
returns-in_err-insert_all-in-Any-clause-wide t c = memory_only (IsWidthFaultOf c.args.expr.now)
    (λ error. tt) c.from_residual-in_err-insert_all-in-Any.result
    c.in_err-insert_all-in-Any.field-0.0 c.from_residual-in_err-insert_all-in-Any.ensures.1

pub returns-in_err-sets-in-All-clause-wide : goal.returns-in_err-sets-in-All-clause-wide
returns-in_err-sets-in-All-clause-wide t c =
    handed_on (IsWidthFaultOf c.part-item.result) (IsWidthFaultOf c.args.expr.now)
    (width_fault c.part-item.result c.args.expr.now
    (wide_by_part all all_is_node c.in-All.parts.now c.loop-part.part-index c.part-item.result
    c.args.expr.now c.loop-part-test.true c.part-item.is c.in-All.ensures.top))
    c.from_residual-in_err-sets-in-All.result c.in_err-sets-in-All.field-0.0
    c.from_residual-in_err-sets-in-All.ensures.1 c.in_err-sets-in-All.ensures.wide

pub returns-in_err-sets-in-Any-clause-wide : goal.returns-in_err-sets-in-Any-clause-wide
returns-in_err-sets-in-Any-clause-wide t c =
    handed_on (IsWidthFaultOf c.part-item-in-loop-part-2.result) (IsWidthFaultOf c.args.expr.now)
    (width_fault c.part-item-in-loop-part-2.result c.args.expr.now
    (wide_by_part any any_is_node c.in-Any.parts.now c.loop-part-2.part-index
    c.part-item-in-loop-part-2.result c.args.expr.now c.loop-part-2-test.true
    c.part-item-in-loop-part-2.is c.in-Any.ensures.top))
    c.from_residual-in_err-sets-in-Any.result c.in_err-sets-in-Any.field-0.0
    c.from_residual-in_err-sets-in-Any.ensures.1 c.in_err-sets-in-Any.ensures.wide
