use Rattle.std.proofs.Common.{◌∙◌, ap, map, sym}
use Rattle.std.specs.List.{list_any}
use Rattle.desk_base.specs.Borrowed.{texts}
use Rattle.desk_tree_lint.specs.Naming.{ids_in, is_separator, mention}
use Rattle.desk_tree_lint.proofs.FirstLemmas.{holds_along}
use Rattle.desk_tree_lint.proofs.RunLemmas.{one_run}
use Rattle.desk_tree_lint.proofs.naming.keep_licence.Goals as goal

pub returns-then-is_divided : goal.returns-then-is_divided
returns-then-is_divided c =
    holds_along c.keep_runs.result c.args.asked.now c.keep_runs.new.asked _ _
    (ap (λ l. map (mention c.args.path.now) (ids_in l))
    (ap texts c.as_slice.ensures.value ∙ c.in_ok-runs.ensures))
    c.keep_runs.ensures

pub returns : goal.returns
returns c = holds_along c.keep_run.result c.args.asked.now c.keep_run.new.asked _ _
    (ap (λ l. map (mention c.args.path.now) (ids_in l)) (sym (one_run c.args.licence.now
    (sym (ap (list_any is_separator) c.as_bytes.ensures.value)
    ∙ sym c.is_divided.ensures ∙ c.if-is_divided.false))))
    c.keep_run.ensures
