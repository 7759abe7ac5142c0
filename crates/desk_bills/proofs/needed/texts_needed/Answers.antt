use Rattle.std.proofs.Common.{◌∙◌, List, ap, arith, subst, sym, take}
use Rattle.std.specs.List.{flat_map}
use Rattle.std.proofs.lemmas.List.{take_all}
use Rattle.std.proofs.lemmas.Result.{IfOk-weaker}
use Rattle.desk_model.specs.Bills.{first_uses}
use Rattle.desk_model.specs.declared.bill.TextOf.{TextOf}
use Rattle.desk_bills.specs.Billing.{AreNamed}
use Rattle.desk_bills.specs.Lacking.{named_by}
use Rattle.desk_bills.specs.declared.needed.Needed.{Needed}
use Rattle.desk_bills.proofs.Naming.{named_so_far}
use Rattle.desk_bills.proofs.needed.texts_needed.Goals as goal

pub loop-one-init : goal.loop-one-init
loop-one-init g c = λ w right. c.new-named.ensures w

pub loop-one-preserved : goal.loop-one-preserved
loop-one-preserved g c = λ w right.
    let needed = c.args.needed.now in
    let i = c.loop-one.one-index in
    subst (λ (l : List TextOf). AreNamed w l c.add_needed.new.named)
    (sym (named_so_far (named_by w) needed i c.one-item.result c.loop-one-test.true c.one-item.is))
    (c.in_ok-add_needed.ensures w right (flat_map (named_by w) (take i needed))
    (c.loop-one.invariant w right))

pub returns : goal.returns
returns g c = λ w right.
    let all = take_all c.loop-one.one-index c.args.needed.now
    (omega (arith, c.loop-one.auto.one-index-end, c.loop-one-test.false)) in
    IfOk-weaker c.first_uses.result _ _
    (λ uses told. told ∙ ((c.loop-one.invariant w right).uses
    ∙ ap (λ (needed : List Needed). first_uses (flat_map (named_by w) needed)) all))
    c.first_uses.ensures
