use Rattle.std.proofs.Common.{◌∙◌, ap, refl, ◌++◌}
use Rattle.desk_expr.proofs.FaultLemmas.{not_memory}
use Rattle.desk_tree_lint.specs.Used.{keys_in}
use Rattle.desk_tree_lint.proofs.UsedLemmas.{uses_these, uses_none, added_by}
use Rattle.desk_tree_lint.proofs.used.add_used.Goals as goal

pub returns-in_ok-found-in-Ok : goal.returns-in_ok-found-in-Ok
returns-in_ok-found-in-Ok c =
    added_by c.add_keys.result c.add_keys.ensures (λ added.
    uses_these c.args.licence.now _ c.in_ok-found-in-Ok.found.items c.args.keys.now
    c.add_keys.new.keys c.in-Ok.ensures.spelled c.in_ok-found-in-Ok.ensures.terms
    c.in-Ok.ensures.only
    (added ∙ ap (λ ts. c.args.keys.now ++ keys_in ts) c.as_slice.ensures.value))

pub returns-in_ok-unless_memory-in-Err : goal.returns-in_ok-unless_memory-in-Err
returns-in_ok-unless_memory-in-Err c =
    uses_none c.args.licence.now c.args.keys.now c.args.keys.now
    (not_memory c.in-Err.fault c.in_ok-unless_memory-in-Err.ensures.text c.in-Err.ensures.complete)
    refl
