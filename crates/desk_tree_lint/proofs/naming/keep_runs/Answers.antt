use Rattle.std.proofs.Common.{◌++◌, List, map, subst, sym, take}
use Rattle.std.proofs.lemmas.List.{append-nil}
use Rattle.desk_base.specs.Borrowed.{texts}
use Rattle.desk_tree_lint.specs.Firsts.{Holds}
use Rattle.desk_tree_lint.specs.Naming.{MentionText, ids_in, mention}
use Rattle.desk_tree_lint.proofs.RunLemmas.{runs_more}
use Rattle.desk_tree_lint.proofs.naming.keep_runs.Goals as goal

pub loop-run-init : goal.loop-run-init
loop-run-init c = λ keys ms holds. subst (λ (l : List MentionText). Holds keys l c.args.asked.now)
    (sym (append-nil ms)) holds

pub loop-run-preserved : goal.loop-run-preserved
loop-run-preserved c = λ keys ms holds.
    let path = c.args.path.now in
    let before = ms
    ++ map (mention path) (ids_in (texts (take c.loop-run.run-index c.args.runs.now))) in
    subst (λ (l : List MentionText). Holds keys l c.keep_run.new.asked)
    (runs_more ms path c.args.runs.now c.loop-run.run-index _ c.loop-run-test.true)
    (c.in_ok-keep_run.ensures keys before (c.loop-run.invariant keys ms holds))
