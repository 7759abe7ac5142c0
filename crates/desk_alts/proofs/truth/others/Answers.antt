use Rattle.std.proofs.Common.{◌≡◌, ◌<◌, ◌+◌, length, get_or, List, ℕ, Some, arith, sym, subst, refl, ◌∙◌}
use Rattle.std.specs.Prelude.{slice_get, ◌≢◌}
use Rattle.std.proofs.lemmas.Bool.{false≢true}
use Rattle.std.proofs.lemmas.Option.{slice_get_read, slice_get-get_or}
use Rattle.std.proofs.lemmas.Option.{slice_get_within}
use Rattle.desk_expr.specs.declared.term.Term.{Term}
use Rattle.desk_alts.proofs.MarkLemmas.{ToldBelow, UnsetFrom, told_set, told_kept, unset_set}
use Rattle.desk_alts.proofs.truth.others.Goals as goal
use Rattle.desk_alts.proofs.truth.others.Goals.{then-not-is_same, else-not-is_same}

pub loop-k-preserved : goal.loop-k-preserved
loop-k-preserved c =
    let cs : List ℕ = c.args.candidates.now in
    let chosen : List Term = c.args.chosen.now in
    let place = get_or cs c.loop-k.k 0 in
    let item = c.index-chosen-place.result in
    let at : slice_get cs c.loop-k.k ≡ Some place =
    slice_get-get_or cs c.loop-k.k 0 c.loop-k-test.true in
    let item_at : slice_get chosen place ≡ Some item =
    slice_get_read chosen (length chosen) place item refl (c.requires.within c.loop-k.k place at)
    c.index-chosen-place.is in
    elim c.if-not-is_same.branch [
      | then-not-is_same w ↦
          let low : c.loop-k.k < 64 = omega (arith, c.requires.few) in
          let other : c.args.term.now ≢ item =
          λ e. false≢true (sym w.if-not-is_same.true ∙ c.is_same.ensures.1 e) in
          record {
            told = subst (λ m. ToldBelow chosen cs c.args.term.now m (c.loop-k.k + 1))
                (sym w.marks-is) (told_set chosen cs c.args.term.now item place c.loop-k.marks
                c.loop-k.k low at item_at other c.loop-k.invariant.told);
            unset = subst (λ m. UnsetFrom m (c.loop-k.k + 1)) (sym w.marks-is)
                (unset_set c.loop-k.marks c.loop-k.k low c.loop-k.invariant.unset);
          }
      | else-not-is_same w ↦
          let same : c.args.term.now ≡ item = c.is_same.ensures.0 w.if-not-is_same.false in
          record {
            told = subst (λ m. ToldBelow chosen cs c.args.term.now m (c.loop-k.k + 1))
                (sym w.marks-is) (told_kept chosen cs c.args.term.now item place c.loop-k.marks
                c.loop-k.k at item_at same c.loop-k.invariant.told c.loop-k.invariant.unset);
            unset = subst (λ m. UnsetFrom m (c.loop-k.k + 1)) (sym w.marks-is)
                (λ j above. c.loop-k.invariant.unset j (omega arith));
          }
    ]

pub returns : goal.returns
returns c = λ k place t at listed. c.loop-k.invariant.told k place t
    (let within = slice_get_within c.args.candidates.now k place at in omega (arith, within)) at
    listed
