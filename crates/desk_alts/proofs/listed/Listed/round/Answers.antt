use Rattle.std.proofs.Common.{◌≡◌, ◌+◌, ◌∙◌, [], ◌∷◌, ◌++◌, length, sym, ap, subst, arith, length-append}
use Rattle.desk_alts.specs.Rounds.{IsRound}
use Rattle.desk_alts.proofs.GoLemmas.{round_passes, round_takes}
use Rattle.desk_alts.proofs.listed.Listed.round.Goals as goal
use Rattle.desk_alts.proofs.listed.Listed.round.Goals.{then-not-is_copy, else-not-is_copy}

pub loop-next-preserved : goal.loop-next-preserved
loop-next-preserved c =
    let chosen = c.args.self.chosen.now in
    elim c.if-not-is_copy.branch [
      | then-not-is_copy w ↦
          let items : c.if-not-is_copy.candidates.items ≡ c.loop-next.candidates.items
          ++ c.loop-next.next ∷ [] = ap (λ v. v.items) w.candidates-is ∙ w.push.ensures.items in
          let grown : length c.if-not-is_copy.candidates.items ≡ length c.loop-next.candidates.items
          + 1 = ap length items ∙ length-append c.loop-next.candidates.items
          (c.loop-next.next ∷ []) in
          record {
            onward = omega (arith, grown, c.loop-next.invariant.onward);
            within = omega (arith, c.loop-next-test.true);
            round = subst (IsRound chosen c.args.from (c.loop-next.next + 1)) (sym items)
                (round_takes chosen c.args.from c.loop-next.next c.loop-next.candidates.items
                c.loop-next.invariant.round);
          }
      | else-not-is_copy w ↦
          let items : c.if-not-is_copy.candidates.items ≡ c.loop-next.candidates.items =
          ap (λ v. v.items) w.candidates-is in
          record {
            onward = omega (arith, ap length items, c.loop-next.invariant.onward);
            within = omega (arith, c.loop-next-test.true);
            round = subst (IsRound chosen c.args.from (c.loop-next.next + 1)) (sym items)
                (round_passes chosen c.args.from c.loop-next.next c.loop-next.candidates.items
                (c.is_copy.ensures w.if-not-is_copy.false) c.loop-next.invariant.round);
          }
    ]
