use Rattle.std.proofs.Common.{◌∙◌, ◌+◌, List, arith, subst, sym, take}
use Rattle.std.specs.Prelude.{filter}
use Rattle.std.specs.List.{flat_map}
use Rattle.std.proofs.lemmas.List.{take_all}
use Rattle.desk_model.specs.Bills.{texts_named}
use Rattle.desk_model.specs.declared.row.FrozenRow.{FrozenRow}
use Rattle.desk_bills.specs.Billing.{Adds, is_of}
use Rattle.desk_bills.specs.declared.texts.Named.{Named}
use Rattle.desk_bills.proofs.Naming.{named_next, named_same}
use Rattle.desk_bills.proofs.texts.add_terms.Goals.{then-has+in_ok-add_term, else-has}
use Rattle.desk_bills.proofs.texts.add_terms.Goals as goal

pub loop-row-preserved : goal.loop-row-preserved
loop-row-preserved g c =
    let p = is_of c.args.key.now in
    let rows = c.args.rows.now in
    let n = c.loop-row.row-index in
    let x = c.row-item.result in
    let old = c.args.named.now in
    elim c.if-has.branch [
      | then-has+in_ok-add_term b ↦ λ w right.
          subst (λ (named : Named). Adds w
          (flat_map (λ row. texts_named w row.document row.term) (filter p (take (n + 1) rows))) old
          named) (sym b.named-is)
          (named_next w (λ row. texts_named w row.document row.term) p rows n x old c.loop-row.named
          b.add_term.new.named c.loop-row-test.true c.row-item.is
          (sym c.has.ensures ∙ b.if-has.true) (c.loop-row.invariant w right)
          (b.in_ok-add_term.ensures w right))
      | else-has b ↦ λ w right.
          subst (λ (named : Named). Adds w
          (flat_map (λ row. texts_named w row.document row.term) (filter p (take (n + 1) rows))) old
          named) (sym b.named-is)
          (named_same w (λ row. texts_named w row.document row.term) p rows n x old c.loop-row.named
          c.loop-row-test.true c.row-item.is (sym c.has.ensures ∙ b.if-has.false)
          (c.loop-row.invariant w right))
    ]

pub returns : goal.returns
returns g c = λ w right.
    subst (λ (rows : List FrozenRow). Adds w
    (flat_map (λ row. texts_named w row.document row.term) (filter (is_of c.args.key.now) rows))
    c.args.named.now c.loop-row.named)
    (take_all c.loop-row.row-index c.args.rows.now
    (omega (arith, c.loop-row.auto.row-index-end, c.loop-row-test.false)))
    (c.loop-row.invariant w right)
