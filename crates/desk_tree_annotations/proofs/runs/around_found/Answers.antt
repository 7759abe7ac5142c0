use Rattle.std.proofs.Common.{◌∙◌, ◌+◌, ap, subst, drop, length}
use Rattle.memchr.specs.Find.{FindsNeedle}
use Rattle.desk_tree_annotations.proofs.Needles.{found_cut, found_first, none_lacks}
use Rattle.desk_tree_annotations.proofs.runs.around_found.Goals as goal

pub returns-in_default-clause-none : goal.returns-in_default-clause-none
returns-in_default-clause-none c = none_lacks c.args.bytes.now c.args.needle.now
    c.in_default.ensures

pub returns-clause-cut : goal.returns-clause-cut
returns-clause-cut c =
    found_cut c.args.bytes.now c.args.needle.now c.split_at.result.1.now c.in-Some.at
    (subst (FindsNeedle c.args.bytes.now c.args.needle.now 0) c.in-Some.is c.find.ensures)
    (c.split_at.ensures.back ∙ ap (λ n. drop (c.in-Some.at + length n) c.args.bytes.now)
    c.needle.ensures)

pub returns-clause-first : goal.returns-clause-first
returns-clause-first c =
    found_first c.args.bytes.now c.args.needle.now c.in-Some.at c.requires
    (subst (FindsNeedle c.args.bytes.now c.args.needle.now 0) c.in-Some.is c.find.ensures)
