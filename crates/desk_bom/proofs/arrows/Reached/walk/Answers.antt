use Rattle.std.proofs.Common.{◌∙◌, ◌+◌, ◌<◌, length, subst, sym, ap, arith}
use Rattle.std.specs.Prelude.{All}
use Rattle.desk_bom.specs.Marks.{among}
use Rattle.desk_bom.proofs.WalkLemmas.{Walks, walks_more, walks_skip, walks_all, targets_within}
use Rattle.std.proofs.lemmas.List.Sums.{count_by-le-length}
use Rattle.desk_bom.proofs.arrows.Reached.walk.Goals as goal
use Rattle.desk_bom.proofs.arrows.Reached.walk.Goals.{then-done-len+in_ok-add_all, else-done-len}

pub add_all-requires : goal.add_all-requires
add_all-requires c =
    targets_within (length c.loop-done.self.marks.items) c.args.arrows.now c.targets.result.now
    c.index-place.result.now c.targets.ensures.targets
    (subst (λ n. All (λ x. x.to < n) c.args.arrows.now) (sym c.loop-done.invariant.count)
    c.requires.within)

pub loop-done-preserved : goal.loop-done-preserved
loop-done-preserved c = elim c.if-done-len.branch [
  | then-done-len+in_ok-add_all w ↦
      let grown = walks_more (among c.args.self.now.order.items) c.args.arrows.now
      c.loop-done.self.order.items c.loop-done.done w.index-place.result.now w.targets.result.now
      c.loop-done.invariant.walks (omega arith) w.index-place.ensures w.targets.ensures.targets in
      record {
        walks = subst (λ l. Walks (among c.args.self.now.order.items) c.args.arrows.now l
            (c.loop-done.done + 1)) (sym (ap (λ r. r.order.items) w.self-is
            ∙ w.in_ok-add_all.ensures.order)) grown;
        count = ap (λ r. length r.marks.items) w.self-is ∙ w.add_all.ensures.count
            ∙ c.loop-done.invariant.count;
      }
  | else-done-len w ↦
      record {
        walks = subst (λ l. Walks (among c.args.self.now.order.items) c.args.arrows.now l
            (c.loop-done.done + 1)) (sym (ap (λ r. r.order.items) w.self-is))
            (walks_skip (among c.args.self.now.order.items) c.args.arrows.now
            c.loop-done.self.order.items c.loop-done.done (omega arith)
            c.loop-done.invariant.walks);
        count = ap (λ r. length r.marks.items) w.self-is ∙ c.loop-done.invariant.count;
      }
]

pub returns : goal.returns
returns c =
    let most = count_by-le-length (λ b. b) c.loop-done.self.marks.items in
    let number = c.loop-done.self.number in
    let count = c.loop-done.invariant.count in
    walks_all (among c.args.self.now.order.items) c.args.arrows.now c.loop-done.self.order.items
    c.loop-done.done (omega arith) c.loop-done.invariant.walks
