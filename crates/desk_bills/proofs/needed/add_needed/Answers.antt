use Rattle.std.proofs.Common.{ℕ, ◌+◌, List, ap, arith, length, subst, sym, take}
use Rattle.std.proofs.lemmas.List.{take_all}
use Rattle.desk_model.specs.Bills.{texts_named}
use Rattle.desk_model.specs.Gaps.{terms_named}
use Rattle.desk_bills.specs.Billing.{Adds}
use Rattle.desk_bills.proofs.Naming.{named_more}
use Rattle.desk_bills.proofs.needed.add_needed.Goals as goal

pub loop-term-preserved : goal.loop-term-preserved
loop-term-preserved g c = λ w right.
    let d = c.args.needed.now.document in
    let i = c.loop-term.term-index in
    let same = c.as_slice-term-items.ensures in
    let old = c.args.named.now in
    subst (λ (terms : List (List ℕ)). Adds w (terms_named w d (take (i + 1) terms)) old
    c.add_term.new.named) same
    (named_more w (texts_named w d) c.as_slice-term-items.result.now i c.term-item.result old
    c.loop-term.named c.add_term.new.named c.loop-term-test.true c.term-item.is
    (subst (λ (terms : List (List ℕ)). Adds w (terms_named w d (take i terms)) old
    c.loop-term.named) (sym same) (c.loop-term.invariant w right))
    (c.in_ok-add_term.ensures w right))

pub returns : goal.returns
returns g c = λ w right.
    let size = ap (λ (terms : List (List ℕ)). length terms) c.as_slice-term-items.ensures in
    subst (λ (terms : List (List ℕ)). Adds w (terms_named w c.args.needed.now.document terms)
    c.args.named.now c.loop-term.named)
    (take_all c.loop-term.term-index c.args.needed.now.terms
    (omega (arith, c.loop-term.auto.term-index-end, c.loop-term-test.false, size)))
    (c.loop-term.invariant w right)
