use Rattle.std.proofs.Common.{◌≡◌, ◌∙◌, ◌+◌, ◌-◌, min, ap, drop, get_or, length, true, arith}
use Rattle.std.proofs.lemmas.List.{drop_more, drop_all, length-set}
use Rattle.desk_tree_patterns.specs.declared.glob.Part.{Part}
use Rattle.desk_tree_patterns.specs.declared.glob.Star.TheVariants.{Single}
use Rattle.desk_tree_patterns.specs.Parts.{pieces}
use Rattle.desk_tree_patterns.proofs.RowLemmas.{Marks, marks_clear, marks_both, part_read, all_read}
use Rattle.desk_tree_patterns.proofs.RowLemmas.{doubled_places}
use Rattle.desk_tree_patterns.proofs.rows.stars_of.Goals as goal

pub loop-part-preserved : goal.loop-part-preserved
loop-part-preserved c =
    let was = c.loop-part.invariant in
    let old = c.loop-part.stars in
    let new = c.mark.new.stars in
    let at = c.loop-part.at in
    let n = c.min.result in
    let bytes = c.args.bytes.now in
    let parts = c.args.parts.now in
    let index = c.loop-part.part-index in
    let none : Part = record { before = 0; star = Single } in
    let part = get_or parts index none in
    let places = was.any_places in
    let double_places = was.double_places in
    let within = was.within in
    let count : n ≡ min part.before (length bytes - at) = c.min.ensures in
    let marked : Marks part.star (at + n) old new =
    record { any = c.mark.ensures.any; double = c.mark.ensures.double } in
    let any_same : length new.any.items ≡ length old.any.items =
    ap length marked.any ∙ length-set old.any.items (at + n) true in
    record {
      within = omega arith;
      any_places = any_same ∙ was.any_places;
      double_places = doubled_places part.star (at + n) old new marked ∙ was.double_places;
      double_any = marks_both part.star (at + n) old new marked (omega arith) was.double_any;
      clear = marks_clear part.star at n old new marked was.clear;
      same = part_read (pieces bytes parts) bytes part (drop index parts) (drop (index + 1) parts) at
          n old new was.within count was.any_places was.double_places was.clear marked
          (drop_more parts index none c.loop-part-test.true) was.same;
    }

pub returns : goal.returns
returns c =
    let is = c.loop-part.invariant in
    let bytes = c.args.bytes.now in
    let none = drop_all c.loop-part.part-index c.args.parts.now c.loop-part-test.false in
    record {
      any_places = is.any_places;
      double_places = is.double_places;
      double_any = is.double_any;
      same = all_read (pieces bytes c.args.parts.now) bytes
          (drop c.loop-part.part-index c.args.parts.now) c.loop-part.at c.loop-part.stars is.within
          is.clear none is.same;
    }
