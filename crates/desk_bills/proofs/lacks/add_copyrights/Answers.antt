use Rattle.std.proofs.Common.{◌∙◌, ◌++◌, ap, refl}
use Rattle.std.specs.List.{flat_map}
use Rattle.desk_model.specs.Gaps.{copyright_gaps, gap, one_if}
use Rattle.desk_model.specs.declared.gap.GapKind.TheVariants.{Copyright}
use Rattle.desk_wanting.proofs.Lists.{ended, flat_map_step}
use Rattle.desk_bills.proofs.lacks.add_copyrights.Goals as goal

pub loop-row-preserved : goal.loop-row-preserved
loop-row-preserved c =
    let rows = c.args.rows.now in
    let x = c.row-item.result in
    flat_map_step copyright_gaps rows c.loop-row.row-index x c.loop-row.gaps.items
    c.add_if.new.gaps.items (copyright_gaps x) _ c.loop-row-test.true c.row-item.is refl
    (c.in_ok-add_if.ensures ∙ ap (λ b. c.loop-row.gaps.items
    ++ one_if b (gap Copyright x.document x.id)) c.says_nothing-lacks.ensures)
    c.loop-row.invariant

pub returns : goal.returns
returns c = ended (flat_map copyright_gaps) c.args.rows.now c.loop-row.row-index
    c.loop-row.gaps.items _ c.loop-row-test.false refl c.loop-row.invariant
