use Rattle.std.proofs.Common.{◌∙◌, ◌++◌, [], ◌∷◌, ap, refl, sym, subst, take}
use Rattle.std.specs.List.{flat_map}
use Rattle.std.specs.Prelude.{◌==◌, not}
use Rattle.std.proofs.lemmas.List.{take_more}
use Rattle.desk_model.specs.Gaps.{gap, one_if, twice_gaps}
use Rattle.desk_model.specs.declared.gap.GapKind.TheVariants.{Twice}
use Rattle.desk_wanting.proofs.Lists.{ended, flat_map_step}
use Rattle.desk_bills.specs.Lacking.{Knows}
use Rattle.desk_bills.proofs.Alike.{elsewhere_first}
use Rattle.desk_bills.proofs.lacks.add_twice.Goals as goal

pub loop-row-preserved : goal.loop-row-preserved
loop-row-preserved c =
    let rows = c.args.rows.now in
    let i = c.loop-row.row-index in
    let x = c.row-item.result in
    let old = c.loop-row.gaps.items in
    let lt = c.loop-row-test.true in (
      flat_map_step (twice_gaps rows) rows i x old c.add_if.new.gaps.items (twice_gaps rows x) _ lt
          c.row-item.is refl
          (c.in_ok-add_if.ensures
          ∙ ap (λ d. old ++ one_if (not (d == x.document)) (gap Twice x.document x.id))
          (c.in_ok-twice.ensures.first (take i rows) c.loop-row.invariant.1)
          ∙ ap (λ b. old ++ one_if b (gap Twice x.document x.id))
          (sym (elsewhere_first rows i x lt c.row-item.is)))
          c.loop-row.invariant.0,
      subst (λ ps. Knows ps c.first_document.new.firsts)
          (ap (λ y. take i rows ++ y ∷ []) c.row-item.is ∙ sym (take_more rows i x lt))
          (c.in_ok-twice.ensures.knows (take i rows) c.loop-row.invariant.1),
    )

pub returns : goal.returns
returns c = ended (flat_map (twice_gaps c.args.rows.now)) c.args.rows.now c.loop-row.row-index
    c.loop-row.gaps.items _ c.loop-row-test.false refl c.loop-row.invariant.0
