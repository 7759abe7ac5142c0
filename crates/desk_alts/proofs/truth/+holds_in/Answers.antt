use Rattle.std.proofs.Common.{◌≡◌, ◌∙◌, ◌+◌, ◌<◌, ◌↔◌, ℕ, List, ◌∷◌, length, drop, get_or, ap, inl, inr, subst, sym, arith}
use Rattle.std.specs.Prelude.{Contains}
use Rattle.std.proofs.lemmas.Bool.{false≢true}
use Rattle.std.proofs.lemmas.List.{drop_more}
use Rattle.desk_expr.specs.declared.term.Term.{Term}
use Rattle.desk_expr.specs.Tree.{Tree, parts_of}
use Rattle.desk_expr.specs.Meaning.{AllHold, Holds, SomeHolds}
use Rattle.desk_alts.proofs.FrontLemmas.{part_is_smaller}
use Rattle.desk_alts.proofs.truth.+holds_in.Goals as goal

module _ (set : Term → Type 0) (parts : List Tree) (i : ℕ) (part : Tree) (inside : i < length parts)
    (at : part ≡ get_or parts i part) where
  here : drop i parts ≡ part ∷ drop (i + 1) parts
  here = drop_more parts i part inside ∙ ap (λ (t : Tree). t ∷ drop (i + 1) parts) (sym at)

  -- a part holds, so all parts do if the others do
  all_more : Holds set part → AllHold set (parts_of parts) ↔ AllHold set (parts_of (drop i parts))
      → AllHold set (parts_of parts) ↔ AllHold set (parts_of (drop (i + 1) parts))
  all_more holds so_far = (
    (λ all. (subst (λ (ts : List Tree). AllHold set (parts_of ts)) here (so_far.0 all)).1),
    (λ rest. so_far.1 (subst (λ (ts : List Tree). AllHold set (parts_of ts)) (sym here)
        (holds, rest))),
  )

  -- a part doesn't hold, so some part does if one of the others does
  some_more : (Holds set part → ⊥)
      → SomeHolds set (parts_of parts) ↔ SomeHolds set (parts_of (drop i parts))
      → SomeHolds set (parts_of parts) ↔ SomeHolds set (parts_of (drop (i + 1) parts))
  some_more fails so_far = (
    (λ some. elim (subst (λ (ts : List Tree). SomeHolds set (parts_of ts)) here (so_far.0 some))
        [ inl holds ↦ absurd (fails holds) | inr rest ↦ rest ]),
    (λ rest. so_far.1 (subst (λ (ts : List Tree). SomeHolds set (parts_of ts)) (sym here)
        (inr rest))),
  )

pub holds_in-requires : goal.holds_in-requires
holds_in-requires t c =
    let smaller = part_is_smaller c.in-All.parts.now c.loop-part.part-index c.part-item.result
    c.args.expr.now c.loop-part-test.true c.part-item.is (inl c.in-All.ensures.top) in
    (omega (arith, smaller, c.decreases), c.requires)

pub loop-part-preserved : goal.loop-part-preserved
loop-part-preserved t c =
    all_more (Contains c.args.listed.chosen.now) c.in-All.parts.now
    c.loop-part.part-index c.part-item.result c.loop-part-test.true
    c.part-item.is (c.holds_in.ensures.0 c.if-not-holds_in.false) c.loop-part.invariant

pub holds_in-requires-in-loop-part-2 : goal.holds_in-requires-in-loop-part-2
holds_in-requires-in-loop-part-2 t c =
    let smaller = part_is_smaller c.in-Any.parts.now c.loop-part-2.part-index
    c.part-item-in-loop-part-2.result c.args.expr.now c.loop-part-2-test.true
    c.part-item-in-loop-part-2.is (inr c.in-Any.ensures.top) in
    (omega (arith, smaller, c.decreases), c.requires)

pub loop-part-2-preserved : goal.loop-part-2-preserved
loop-part-2-preserved t c =
    some_more (Contains c.args.listed.chosen.now) c.in-Any.parts.now
    c.loop-part-2.part-index c.part-item-in-loop-part-2.result
    c.loop-part-2-test.true c.part-item-in-loop-part-2.is
    (λ holds. false≢true (sym c.if-holds_in.false ∙ c.holds_in-in-loop-part-2.ensures.1 holds))
    c.loop-part-2.invariant
