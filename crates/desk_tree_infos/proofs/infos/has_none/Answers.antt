use Rattle.std.proofs.Common.{◌∙◌, ◌++◌, ap, sym}
use Rattle.desk_tree_infos.specs.Sharing.{texts_at, is_none}
use Rattle.desk_tree_infos.proofs.SharingLemmas.{some_there}
use Rattle.desk_tree_infos.proofs.infos.has_none.Goals as goal

pub returns-then-not-has_none_at : goal.returns-then-not-has_none_at
returns-then-not-has_none_at c =
    let own = c.args.sources.now.own.items in
    sym (ap (λ ns. is_none (texts_at c.args.all.now c.args.of ns ++ own))
    (sym c.as_slice-number-items.ensures.value)
    ∙ sym c.loop-number.invariant
    ∙ some_there c.args.all.now c.args.of c.as_slice-number-items.result.now
    c.loop-number.number-index _ own c.loop-number-test.true
    (sym c.has_none_at.ensures ∙ c.if-not-has_none_at.true))
