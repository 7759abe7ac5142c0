use Rattle.std.proofs.Common.{◌≡◌, ◌++◌, codes, subst}
use Rattle.desk_tree_annotations.specs.Runs.{Lacks, IsUpTo}
use Rattle.desk_tree_annotations.proofs.SkipLemmas.{clear_before}
use Rattle.desk_tree_annotations.proofs.skipping.clear_of.Goals as goal

pub returns-clause-clear : goal.returns-clause-clear
returns-clause-clear c =
    let bytes = c.args.bytes.now in
    let before = c.in-Some.before.now in
    let after = c.in-Some.field-0-1.now in
    clear_before (codes "SPDX-") bytes before after
    (subst (λ n. bytes ≡ before ++ (n ++ after)) c.requires.mark c.in-Some.ensures.cut)
    (subst (λ n. IsUpTo n before) c.requires.mark c.in-Some.ensures.first)

pub returns-in_default-clause-none : goal.returns-in_default-clause-none
returns-in_default-clause-none c = subst (λ n. Lacks n c.args.bytes.now) c.requires.mark
    c.in_default.ensures.none
