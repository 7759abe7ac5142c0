use Rattle.std.proofs.Common.{◌≡◌, ◌↔◌, ℕ, List, length, sym, subst, inl, inr, arith}
use Rattle.std.specs.Prelude.{Contains, ◌≢◌}
use Rattle.std.specs.Int.{bit_at}
use Rattle.std.proofs.lemmas.Option.{slice_get_within}
use Rattle.desk_expr.specs.declared.term.Term.{Term}
use Rattle.desk_expr.specs.Tree.{Tree, one}
use Rattle.desk_expr.specs.Meaning.{Holds, Without}
use Rattle.desk_alts.proofs.FrontLemmas.{part_is_smaller}
use Rattle.desk_alts.proofs.MarkLemmas.{ones_set, all_marked, some_marked}
use Rattle.desk_alts.proofs.truth.+holds_without.Goals as goal

pub loop-part-init : goal.loop-part-init
loop-part-init t c =
    λ k place gone at listed.
    let set = ones_set (length c.args.candidates.now) k c.requires.few
    (slice_get_within c.args.candidates.now k place at) in
    ((λ h. (set, h)), (λ h. h.1))

pub holds_without-marks-requires : goal.holds_without-marks-requires
holds_without-marks-requires t c =
    let smaller = part_is_smaller c.in-All.parts.now c.loop-part.part-index c.part-item.result
    c.args.expr.now c.loop-part-test.true c.part-item.is (inl c.in-All.ensures.top) in (
      omega (arith, smaller, c.decreases),
      (c.requires.noted, (c.requires.few, c.requires.within)),
    )

pub loop-part-preserved : goal.loop-part-preserved
loop-part-preserved t c =
    λ k place gone at listed. all_marked (Without c.args.listed.chosen.now gone)
    c.in-All.parts.now c.loop-part.part-index c.part-item.result c.loop-part.marks
    c.holds_without-marks.result k c.loop-part-test.true
    (c.loop-part.invariant k place gone at listed)
    (subst (λ (x : Tree). (bit_at c.holds_without-marks.result k ≡ 1)
    ↔ Holds (Without c.args.listed.chosen.now gone) x) c.part-item.is
    (c.holds_without-marks.ensures k place gone at listed))

pub holds_without-marks-requires-in-loop-part-2 : goal.holds_without-marks-requires-in-loop-part-2
holds_without-marks-requires-in-loop-part-2 t c =
    let smaller = part_is_smaller c.in-Any.parts.now c.loop-part-2.part-index
    c.part-item-in-loop-part-2.result c.args.expr.now c.loop-part-2-test.true
    c.part-item-in-loop-part-2.is (inr c.in-Any.ensures.top) in (
      omega (arith, smaller, c.decreases),
      (c.requires.noted, (c.requires.few, c.requires.within)),
    )

pub loop-part-2-preserved : goal.loop-part-2-preserved
loop-part-2-preserved t c =
    λ k place gone at listed. some_marked (Without c.args.listed.chosen.now gone)
    c.in-Any.parts.now c.loop-part-2.part-index c.part-item-in-loop-part-2.result
    c.loop-part-2.marks c.holds_without-marks-in-loop-part-2.result k c.loop-part-2-test.true
    (c.loop-part-2.invariant k place gone at listed)
    (subst (λ (x : Tree). (bit_at c.holds_without-marks-in-loop-part-2.result k ≡ 1)
    ↔ Holds (Without c.args.listed.chosen.now gone) x) c.part-item-in-loop-part-2.is
    (c.holds_without-marks-in-loop-part-2.ensures k place gone at listed))

-- a chosen term holds if it is not the one that is gone
leaf_marked : (chosen : List Term) (term gone : Term) (e : Tree) (marks k : ℕ) → one term ≡ e
    → Contains chosen term
    → ((bit_at marks k ≡ 1) ↔ (term ≢ gone)) → (bit_at marks k ≡ 1) ↔ Holds (Without chosen gone) e
leaf_marked chosen term gone e marks k e_is there told =
    subst (λ x. (bit_at marks k ≡ 1) ↔ Holds (Without chosen gone) x) e_is
    ((λ h. (there, told.0 h)), (λ h. told.1 h.1))

pub returns-then-contains : goal.returns-then-contains
returns-then-contains t c =
    λ k place gone at listed. leaf_marked c.args.listed.chosen.now c.in-One.term.now gone
    c.args.expr.now c.others.result k (sym c.in-One.ensures.top)
    (c.contains.ensures.0 c.if-contains.true)
    (c.others.ensures k place gone at listed)
